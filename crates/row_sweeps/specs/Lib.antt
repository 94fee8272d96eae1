pub mod Counts
pub mod Gathering
pub mod Laws
pub mod Rules
pub mod Stored
pub mod Sweeps
pub mod Terms
pub mod Visits
