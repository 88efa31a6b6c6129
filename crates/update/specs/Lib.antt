pub mod Pair
pub mod Update
