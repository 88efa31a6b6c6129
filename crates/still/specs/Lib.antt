pub mod Answered
pub mod Fits
pub mod Entries
pub mod Same
