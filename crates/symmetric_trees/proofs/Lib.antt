pub mod Branches
pub mod GraftedTrees
pub mod LeastOf
pub mod SpellingSteps
pub mod Tables
