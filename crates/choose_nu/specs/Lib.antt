pub mod Choice
pub mod Rule
pub mod Stirred
