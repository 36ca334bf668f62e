pub mod Choices
pub mod Names
pub mod Summaries
pub mod Surveys
pub mod Tables
pub mod Paths
pub mod ProfilePieces
