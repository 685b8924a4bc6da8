pub mod Records
pub mod Cores
pub mod Checks
