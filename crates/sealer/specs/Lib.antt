pub mod Numbers
pub mod Siphash
pub mod Seals
pub mod Sealers
pub mod Laws
pub mod Proofs
