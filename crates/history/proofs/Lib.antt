pub mod After
pub mod Runs
pub mod Held
pub mod Named
pub mod Histories
pub mod WrongPrograms
pub mod Contracts
