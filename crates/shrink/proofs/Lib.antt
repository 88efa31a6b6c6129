pub mod Laws
pub mod Walks
pub mod Kept
pub mod Accepts
