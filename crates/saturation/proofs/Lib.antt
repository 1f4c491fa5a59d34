pub mod HistoryLemmas
pub mod SkipLemmas
pub mod RestLemmas
pub mod FewRounds
pub mod BudgetLemmas
pub mod LoopLemmas
pub mod GivenLemmas
pub mod IdleLemmas
pub mod StartLemmas
pub mod EndLemmas
mod NoKinds
mod LogLemmas
mod NoteLemmas
mod RoundLemmas
mod OneCellLemmas
pub mod AskLemmas
mod TableLemmas
mod NameLemmas
mod WakingLemmas
mod EndsLemmas
mod FirstCells
mod MemberLemmas
mod DoneLemmas
mod FirstLemmas
mod GrowthLemmas
mod ReadsLemmas
mod BuildLemmas
mod SearchLemmas
mod GateLemmas
mod CourseLemmas
