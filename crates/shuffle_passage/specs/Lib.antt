pub mod Words
pub mod WordTables
pub mod Passage
pub mod Branches
pub mod LabelKinds
pub mod Transfer
pub mod RelabelledSums
