pub mod Deciding
mod EvaluationLemmas
pub mod HoldingLemmas
pub mod SameGuards
pub mod SelectorLemmas
pub mod Sizes
