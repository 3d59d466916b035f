pub mod Calls
pub mod Decisions
pub mod Fields
pub mod Secrets
pub mod Step
