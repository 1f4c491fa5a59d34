pub mod Members
pub mod LabelLemmas
pub mod RoundLemmas
pub mod PageLemmas
pub mod GrowthLemmas
pub mod RestLemmas
pub mod PairLemmas
pub mod KnowledgeLemmas
pub mod PageRest
pub mod CellLemmas
pub mod Steps
pub mod PlaceLemmas
pub mod ReachRounds
mod GiverLemmas
mod Examples
