pub mod Building
pub mod Listing
pub mod Merging
pub mod Overlaying
pub mod SElements
