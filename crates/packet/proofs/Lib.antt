pub mod Digits
pub mod Encodings
pub mod Checks
pub mod Readings
pub mod Runs
