pub mod Labels
pub mod Diagram
pub mod Schedule
