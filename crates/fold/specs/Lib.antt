pub mod Building
pub mod Entered
pub mod Puts
