pub mod Box
pub mod Doubles
pub mod Once
pub mod Worked
