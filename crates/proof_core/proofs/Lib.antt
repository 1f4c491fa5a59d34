pub mod TrailLemmas
pub mod PagePassLemmas
pub mod WorldLemmas
pub mod WalkLemmas
pub mod WorkLemmas
pub mod KeyedLemmas
pub mod PassLemmas
pub mod NodePassLemmas
pub mod KeepLemmas
pub mod SimpleLemmas
pub mod GrowthLemmas
pub mod TrackLemmas
pub mod UnfoldLemmas
mod ReadingExample
