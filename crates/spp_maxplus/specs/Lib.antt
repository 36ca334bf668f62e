pub mod Candidate
pub mod State
pub mod Seg
pub mod Weights
