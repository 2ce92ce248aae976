pub mod Sets
pub mod Sought
