pub mod Counting
pub mod Halves
pub mod Masking
pub mod Patterns
pub mod Repeating
pub mod Running
pub mod Shapes
