pub mod Load
pub mod Starts
