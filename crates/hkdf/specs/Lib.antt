pub mod Rfc5869
pub mod Rfc8446
pub mod Refusals
