pub mod Words
pub mod Openings
pub mod Runs
pub mod Steps
