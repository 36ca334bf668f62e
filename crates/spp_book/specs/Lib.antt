pub mod Jobs
pub mod Books
pub mod Counters
pub mod Desks
pub mod Worlds
