pub mod TreeLemmas
pub mod CombineLemmas
pub mod BranchLemmas
pub mod ArenaLemmas
pub mod AnswerLemmas
pub mod ReferenceLemmas
mod TableLemmas
mod PairLemmas
mod MemoLemmas
mod Remembering
mod VariableLemmas
mod CombinedLemmas
mod MarkLemmas
mod Rows
