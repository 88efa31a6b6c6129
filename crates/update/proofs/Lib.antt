pub mod Filled
pub mod Turned
pub mod Left
