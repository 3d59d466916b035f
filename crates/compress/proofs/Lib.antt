pub mod Filling
pub mod Pieces
