pub mod Sides
pub mod Stirred
pub mod Curvature
pub mod Second
pub mod Rule
pub mod Lead
