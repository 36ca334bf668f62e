pub mod Laws
pub mod Spprof
pub mod Usage
