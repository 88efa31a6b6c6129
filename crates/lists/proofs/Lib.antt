pub mod Prefix
pub mod Later
