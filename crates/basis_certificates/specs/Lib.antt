pub mod Certificates
pub mod Entries
pub mod Faults
pub mod Holding
pub mod Laws
pub mod ShuffleElements
pub mod Writing
