pub mod Serves
pub mod Words
pub mod Worked
