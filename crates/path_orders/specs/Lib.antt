pub mod Comparing
pub mod Joined
pub mod Laws
pub mod SeenKeys
pub mod WordSteps
