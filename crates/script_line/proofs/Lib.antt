pub mod Words
pub mod Fields
pub mod Headings
pub mod Lines
