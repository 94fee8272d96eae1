pub mod HeldSteps
pub mod NewNumbers
pub mod Places
pub mod SameUses
pub mod ShortEntries
pub mod WritableBlocks
