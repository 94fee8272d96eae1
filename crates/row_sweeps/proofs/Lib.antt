pub mod ChainsSoFar
pub mod Falls
pub mod Gathers
pub mod KeptRules
pub mod Multiples
pub mod Rests
pub mod Tails
pub mod TailsThatFall
