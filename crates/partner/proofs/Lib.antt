pub mod Calm
pub mod Steps
pub mod Apart
pub mod Rule
