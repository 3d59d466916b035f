pub mod Pads
pub mod Parts
pub mod Prepared
