pub mod KeptFrames
pub mod Returns
pub mod Storage
pub mod Joining
pub mod Reading
pub mod Stored
