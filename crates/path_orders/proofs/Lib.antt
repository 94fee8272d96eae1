pub mod ComparableKeys
pub mod JoinedLists
pub mod LeafWords
pub mod Seen
pub mod WeightSums
pub mod WordLists
