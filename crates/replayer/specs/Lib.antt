pub mod Step
pub mod Replay
