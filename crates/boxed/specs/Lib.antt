pub mod Range
pub mod Delta
