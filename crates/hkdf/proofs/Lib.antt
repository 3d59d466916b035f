pub mod Values
pub mod Filling
pub mod Labels
pub mod Calls
pub mod Limits
