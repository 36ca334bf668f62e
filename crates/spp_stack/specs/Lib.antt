pub mod Chain
pub mod Parts
pub mod Machine
pub mod StackBuilder
