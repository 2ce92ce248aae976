pub mod Asking
pub mod Laying
