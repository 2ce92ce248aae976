pub mod EntryLaws
pub mod LaidLaws
pub mod ParentLaws
pub mod RootLaws
