pub mod Laws
pub mod Independent
pub mod Coded
pub mod Nobody
pub mod Plain
