pub mod Gathered
pub mod Sums
