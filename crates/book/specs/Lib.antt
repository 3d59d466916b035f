pub mod Call
pub mod Groups
pub mod Messages
pub mod Book
pub mod Held
pub mod Refusals
pub mod On
pub mod Table
