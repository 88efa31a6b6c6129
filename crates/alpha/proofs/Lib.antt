pub mod Constants
pub mod Clipped
