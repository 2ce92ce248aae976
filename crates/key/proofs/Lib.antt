pub mod KindLaws
pub mod ReadLaws
pub mod SetLaws
pub mod SoughtLaws
