pub mod Completion
pub mod Existence
pub mod Laws
pub mod ReducedBases
