pub mod Deciding
pub mod Writing
pub mod Places
pub mod Answers
pub mod Exporting
