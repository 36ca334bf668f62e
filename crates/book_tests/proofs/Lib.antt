mod Ranges
mod Runs
