pub mod LevelLaws
pub mod PeriodLaws
pub mod ReadingLaws
pub mod StepLaws
