pub mod RightLemmas
pub mod ExactLemmas
pub mod RoomLemmas
pub mod DeadLemmas
pub mod BudgetLemmas
mod RingScript
mod RingLines
mod RingLemmas
pub mod CauseLemmas
pub mod LoadingLemmas
pub mod ReadingLemmas
pub mod GivenLemmas
pub mod TablesLemmas
pub mod AskedLemmas
pub mod SayingLemmas
pub mod VerdictLemmas
pub mod TaskLemmas
pub mod RunLemmas
pub mod SheetLemmas
pub mod SiteLemmas
pub mod EachPageLemmas
pub mod BestLemmas
pub mod WritingLemmas
pub mod PreservationLemmas
pub mod EngineLemmas
pub mod MeaningLemmas
pub mod SaidMeanings
pub mod PageMeanings
pub mod MeansLemmas
mod PruneLemmas
mod Rows
