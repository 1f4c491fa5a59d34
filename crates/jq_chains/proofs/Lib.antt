pub mod MarkSteps
mod SharedCallSteps
