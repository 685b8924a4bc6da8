pub mod Cases
pub mod Lines
pub mod Proofs
pub mod Services
pub mod States
