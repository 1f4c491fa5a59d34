mod BackLemmas
mod CallLemmas
mod EndLemmas
mod FirstLemmas
pub mod MarkLemmas
mod NumberLemmas
mod OrderedLemmas
mod PlainLemmas
pub mod ProofLemmas
mod ReplayLemmas
mod RoomLemmas
pub mod SettlingLemmas
mod StandingLemmas
mod TogetherLemmas
pub mod WideLemmas
