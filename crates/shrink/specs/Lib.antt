pub mod Walk
pub mod Drops
