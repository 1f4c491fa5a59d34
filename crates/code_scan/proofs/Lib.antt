pub mod SameFronts
pub mod SameLaw
pub mod SameStates
pub mod SameTexts
pub mod ScanSteps
pub mod SpellingLemmas
pub mod TextSteps
pub mod Words
mod Rows
