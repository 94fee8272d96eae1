pub mod Compositions
pub mod Images
pub mod Laws
pub mod Maps
pub mod Obligations
