pub mod Run
pub mod Pass
pub mod End
