pub mod Votes
pub mod Refusals
pub mod Entry
