pub mod Fingerprints
pub mod Table
pub mod Tokens
pub mod Viewed
