pub mod AlikeLemmas
mod CopyLemmas
pub mod EffectLemmas
mod GroupLemmas
mod HoldingLemmas
mod ListLemmas
mod NoneLemmas
mod PartLemmas
mod ReadingLemmas
