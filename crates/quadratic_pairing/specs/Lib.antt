pub mod DualRelations
pub mod Duals
pub mod Laws
pub mod Pairings
