pub mod Gives
pub mod HandsBack
pub mod Trains
pub mod Trail
pub mod Elects
