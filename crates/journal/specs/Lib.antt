pub mod Format
pub mod Write
pub mod Calls
pub mod Records
pub mod RoundTrips
