pub mod GoodUses
pub mod HeldSteps
pub mod HeldBlocks
