pub mod Collectors
pub mod Laws
