pub mod BuildLaws
pub mod FlatLaws
pub mod ListedLaws
pub mod LoopLaws
pub mod PutLaws
pub mod ReadLaws
pub mod SizeLaws
pub mod WalkLaws
