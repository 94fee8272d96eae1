pub mod FoundLeaves
pub mod LabelledWords
pub mod ZeroEntries
