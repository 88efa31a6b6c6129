pub mod Plain
pub mod Fields
pub mod Steps
