pub mod Blocks
pub mod Renumbering
pub mod Short
