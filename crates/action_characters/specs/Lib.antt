pub mod Actions
pub mod CycleTypes
pub mod Laws
pub mod ModularLaws
pub mod ModularTraces
pub mod Traces
