pub mod Words
pub mod Encoding
pub mod Inverse
