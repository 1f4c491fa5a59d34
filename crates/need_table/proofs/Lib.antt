pub mod TableLemmas
mod OrderLemmas
pub mod FillLemmas
pub mod ChildLemmas
mod GrowLemmas
mod PlaceLemmas
mod GainLemmas
pub mod BoundLemmas
mod SeenLemmas
pub mod SettleLemmas
pub mod PlainLemmas
mod RowLemmas
mod AgendaLemmas
mod GoingLemmas
mod StepLemmas
