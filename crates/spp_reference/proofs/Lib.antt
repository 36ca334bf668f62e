pub mod Lists
pub mod Sums
pub mod Frames
pub mod Edges
pub mod Greatest
pub mod Parts
