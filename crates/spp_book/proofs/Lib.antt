mod Runs
mod Lists
mod Meetings
mod Joining
pub mod Totals
mod Counters
mod Desks
mod Worlds
