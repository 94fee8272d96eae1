pub mod Draws
pub mod Elements
pub mod Laws
pub mod PreLie
pub mod VectorFields
