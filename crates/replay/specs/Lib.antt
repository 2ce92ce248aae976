pub mod Answers
pub mod Bare
pub mod Counting
pub mod Inputs
pub mod Lent
pub mod Tallies
pub mod Words
