pub mod DiamondBySlots
pub mod Examples
pub mod Laws
pub mod Multiples
pub mod Placed
pub mod Ranking
pub mod Separate
pub mod SharedVertices
