pub mod Loaded
pub mod Starts
