pub mod Trace
pub mod Rule
pub mod Modes
