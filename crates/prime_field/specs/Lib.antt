pub mod Laws
pub mod Primes
pub mod Residues
