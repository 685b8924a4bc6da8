pub mod Places
pub mod Samples
pub mod Texts
