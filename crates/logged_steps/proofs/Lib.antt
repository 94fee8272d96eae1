pub mod Chains
pub mod Forms
pub mod Insertions
pub mod Instances
pub mod Kept
pub mod Placing
pub mod Standing
pub mod Valid
