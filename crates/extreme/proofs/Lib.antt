pub mod Rule
pub mod Tests
pub mod Racing
pub mod Alike
