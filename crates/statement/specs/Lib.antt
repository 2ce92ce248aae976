pub mod Levels
pub mod Places
pub mod Reading
pub mod Steps
pub mod TreeReading
