pub mod Low
pub mod Reading
pub mod Told
