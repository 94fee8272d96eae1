pub mod Combs
pub mod Draws
pub mod Examples
pub mod Exponents
pub mod Instances
pub mod Trials
pub mod VectorFields
pub mod Written
