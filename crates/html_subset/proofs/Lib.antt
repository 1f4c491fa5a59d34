pub mod Fronts
pub mod NameNotes
pub mod LabelLemmas
pub mod AttributeLemmas
pub mod ClassSteps
pub mod StandLemmas
pub mod MachineLemmas
pub mod GrowthLemmas
pub mod Shown
pub mod AtomLemmas
pub mod CountLemmas
pub mod RisingLabels
pub mod Simulation
pub mod ReadingSteps
pub mod EndingLemmas
pub mod NamesKept
mod Rows
