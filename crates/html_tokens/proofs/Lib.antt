pub mod RawNames
pub mod AttributeSteps
pub mod WordLemmas
mod TokenRows
