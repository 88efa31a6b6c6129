pub mod Owned
pub mod Kept
pub mod Started
pub mod Moved
pub mod Step
pub mod Run
pub mod Quiet
