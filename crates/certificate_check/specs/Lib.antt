pub mod Blocks
pub mod Answers
pub mod Checking
pub mod Soundness
