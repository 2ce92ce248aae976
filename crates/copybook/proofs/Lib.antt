pub mod AskedLaws
pub mod Same
