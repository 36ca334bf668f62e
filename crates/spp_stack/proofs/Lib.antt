pub mod Chains
pub mod Standing
pub mod Passing
pub mod Actions
pub mod Following
pub mod PartsPassed
mod Linked
pub mod Framed
