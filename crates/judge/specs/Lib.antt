pub mod Refusals
pub mod Sizes
pub mod Judge
