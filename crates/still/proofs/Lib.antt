pub mod Fitted
pub mod Fits
pub mod Sizes
pub mod Same
