pub mod Nesting
pub mod Answers
pub mod Pieces
pub mod RecordChecks
pub mod Texts
