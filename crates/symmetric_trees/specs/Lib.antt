pub mod Generators
pub mod Trees
pub mod LeafCounts
pub mod Spelling
