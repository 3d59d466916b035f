pub mod Writing
pub mod Sizes
pub mod Going
pub mod Giving
pub mod Fitting
