pub mod Adding
pub mod Finding
pub mod Lists
