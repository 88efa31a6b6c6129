pub mod Pairs
pub mod Laws
pub mod Steps
pub mod Refusals
pub mod Once
pub mod Worked
