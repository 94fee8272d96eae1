pub mod TwoLeaves
