pub mod First
pub mod Bits
pub mod Lengths
pub mod Accepted
pub mod Worked
