pub mod OuterSteps
pub mod RunSteps
pub mod TextSteps
pub mod Words
