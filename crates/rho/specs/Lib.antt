pub mod Rho
