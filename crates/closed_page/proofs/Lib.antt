pub mod AddLemmas
pub mod CallLemmas
pub mod ChildLemmas
pub mod FirstsLemmas
pub mod GainLemmas
pub mod LabelledLemmas
mod NodeLemmas
mod NoteLemmas
mod RelabelledLemmas
mod RowLemmas
mod RunLemmas
mod ShapeLemmas
mod SpreadLemmas
