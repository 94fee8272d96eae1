pub mod Entries
pub mod Logs
pub mod Marks
pub mod Members
pub mod Resting
