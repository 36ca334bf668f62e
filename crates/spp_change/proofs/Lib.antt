pub mod Nesting
pub mod Owners
