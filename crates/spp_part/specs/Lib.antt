pub mod States
pub mod Parts
pub mod Readings
pub mod RecordParts
