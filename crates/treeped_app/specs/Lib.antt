-- What public contracts and laws cite.
pub use Rattle.run_ends.specs.Refusals
pub use Rattle.run_ends.specs.Stops
pub use Rattle.run_ends.specs.Tells
pub mod Answers
pub mod Commands
pub mod Laws
pub mod Meaning
pub mod Modes
pub mod Readings
pub mod Runs
pub mod Tasks
-- The results of inner functions, part by part, and the abstraction functions of their types.
pub mod Inputs
pub mod MeansParts
pub mod Sites
pub mod Verdicts
pub mod Views
