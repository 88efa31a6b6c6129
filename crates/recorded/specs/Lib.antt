pub mod Record
pub mod Agree
pub mod Entry
