mod BesideLemmas
pub mod NumberLemmas
mod PassLemmas
mod RankLemmas
pub mod RankSets
pub mod SetLemmas
mod WalkLemmas
