mod EnterLemmas
mod FoldLemmas
mod LastLemmas
pub mod LeadLemmas
mod LineLemmas
pub mod LinkLemmas
pub mod RoundLemmas
