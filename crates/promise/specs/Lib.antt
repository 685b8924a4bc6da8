pub mod Statements
pub mod Steps
pub mod Histories
pub mod Lists
pub mod Rounds
pub mod Collections
pub mod Claims
pub mod Example
