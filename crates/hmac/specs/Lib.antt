pub mod Rfc2104
pub mod Keyed
