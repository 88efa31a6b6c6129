pub mod Within
pub mod Moves
pub mod Kept
