pub mod Reconstruct
