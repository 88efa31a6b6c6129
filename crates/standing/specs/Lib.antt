pub mod Over
pub mod Run
pub mod End
