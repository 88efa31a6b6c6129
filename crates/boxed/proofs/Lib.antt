pub mod Range
pub mod Differ
pub mod Agree
pub mod Clip
pub mod Step
pub mod Kept
pub mod Pairs
pub mod Gain
