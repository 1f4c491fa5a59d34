pub mod CompositionLemmas
pub mod HeldLemmas
pub mod StepLemmas
pub mod ComposeLemmas
mod MemoLemmas
mod SearchLemmas
mod WalkLemmas
mod Rows
