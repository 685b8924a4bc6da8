pub mod Digits
pub mod Kinds
pub mod Fields
pub mod Statements
pub mod Parts
pub mod Packets
pub mod Laws
pub mod Proofs
