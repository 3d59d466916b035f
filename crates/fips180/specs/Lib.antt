pub mod Words
pub mod Constants
pub mod Variant
pub mod Padding
pub mod Hash
pub mod Rows
