pub mod FitPlaces
pub mod LeadingTerms
pub mod LoneElement
pub mod ShelvedLists
pub mod TermLists
