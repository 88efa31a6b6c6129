pub mod Entries
pub mod Still
