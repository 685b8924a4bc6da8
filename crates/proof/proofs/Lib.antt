pub mod Tests
pub mod Actives
pub mod Places
pub mod Certified
pub mod Gathered
pub mod Kept
pub mod Feeding
pub mod Shifted
