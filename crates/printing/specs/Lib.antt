pub mod Depths
pub mod Read
