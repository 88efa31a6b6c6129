pub mod Within
pub mod Rearranged
pub mod Travel
pub mod Ceilings
pub mod Home
pub mod Worked
