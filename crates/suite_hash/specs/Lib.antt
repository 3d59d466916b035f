pub mod Variants
pub mod Running
pub mod Hash
