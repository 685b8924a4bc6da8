pub mod Roles
pub mod Certificates
pub mod Reports
pub mod Choices
pub mod Checks
pub mod Laws
