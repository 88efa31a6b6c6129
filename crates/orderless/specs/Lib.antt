pub mod Plain
pub mod Sheet
pub mod Choice
pub mod Step
pub mod Run
pub mod End
