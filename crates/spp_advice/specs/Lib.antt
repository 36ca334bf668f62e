pub mod Counts
pub mod Ranking
pub mod Laws
