pub mod AnswerLaws
pub mod ExtractLaws
pub mod GatherLaws
pub mod ItemLaws
pub mod SearchLaws
pub mod SumLaws
