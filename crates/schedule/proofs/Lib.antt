pub mod Laws
pub mod Derivations
