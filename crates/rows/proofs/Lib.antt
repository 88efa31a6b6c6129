pub mod Both
pub mod Filled
