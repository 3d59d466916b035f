pub mod Making
pub mod Turns
pub mod Records
pub mod Numbers
pub mod Replaying
