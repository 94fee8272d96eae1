pub mod Commands
pub mod Answers
pub mod FormsAnswers
pub mod Laws
pub mod Runs
pub mod FormsRuns
pub mod CheckedTexts
pub mod CheckRuns
