pub mod Dags
pub mod Walks
pub mod Sums
pub mod Places
pub mod Profiles
