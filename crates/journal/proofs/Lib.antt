pub mod Readings
pub mod Writing
pub mod Shapes
pub mod RoundTrips
pub mod Journals
