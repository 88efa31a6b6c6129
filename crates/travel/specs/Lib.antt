pub mod Travel
pub mod Home
