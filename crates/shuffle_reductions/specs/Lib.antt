pub mod Chains
pub mod Divided
pub mod Extensions
pub mod Laws
pub mod SweepLaws
pub mod Swept
pub mod TableGrowth
