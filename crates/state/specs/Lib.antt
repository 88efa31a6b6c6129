pub mod Lists
pub mod Fields
pub mod Moving
