-- What public contracts cite.
pub mod Answers
pub mod Arena
pub mod Gates
pub mod Numbers
pub mod References
pub mod TreeCode
pub mod Trees
-- Invariants, and the states of the code.
pub mod Marks
pub mod Memo
pub mod Pairs
pub mod Starts
pub mod Table
pub mod Tasks
