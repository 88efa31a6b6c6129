pub mod Magnitude
pub mod Laws
