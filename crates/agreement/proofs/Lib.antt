pub mod Lists
pub mod Induction
pub mod Counting
pub mod Groups
pub mod Reports
pub mod Laws
pub mod Decisions
pub mod Example
