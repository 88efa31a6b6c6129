pub mod Entry
pub mod Differ
pub mod Silenced
pub mod Coded
