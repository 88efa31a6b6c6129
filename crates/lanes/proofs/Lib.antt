pub mod Place
pub mod Sixteen
pub mod Steps
