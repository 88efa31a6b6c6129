pub mod Shown
pub mod Order
