pub mod Sound
pub mod Absorbing
pub mod Message
pub mod Turns
pub mod Tail
pub mod Whole
pub mod Padded
pub mod Suites
