pub mod Nan
pub mod Back
