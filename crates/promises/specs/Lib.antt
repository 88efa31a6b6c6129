pub mod Fit
pub mod Retired
pub mod Threshold
pub mod Leaves
pub mod Numbers
pub mod Trail
pub mod Still
pub mod Travelling
