pub mod Covers
pub mod Whole
pub mod Halves
pub mod Orders
