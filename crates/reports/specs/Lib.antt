pub mod Chained
pub mod Detailed
pub mod Listed
