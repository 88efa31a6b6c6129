pub mod Matrix
pub mod Row
pub mod Curvature
