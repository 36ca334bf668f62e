pub mod Counted
pub mod OnPath
pub mod Ranks
pub mod Light
pub mod Left
pub mod Costs
pub mod Returned
pub mod Sites
