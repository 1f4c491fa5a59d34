pub mod AttributeSteps
pub mod GatherSteps
pub mod KnownSteps
mod Rows
pub mod SetSteps
pub mod TableSteps
pub mod Tables
pub mod WordSteps
