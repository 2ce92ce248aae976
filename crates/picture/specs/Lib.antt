pub mod Kinds
pub mod Masks
pub mod Repeats
pub mod Shape
