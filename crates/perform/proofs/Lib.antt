pub mod Performing
pub mod Lists
