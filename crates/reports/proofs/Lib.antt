pub mod AnswerLaws
pub mod ChainLaws
pub mod FlatLaws
pub mod ListedLaws
pub mod LoopLaws
pub mod NumberLaws
pub mod OutwardLaws
