-- What public contracts cite.
pub mod Compositions
pub mod Steps
-- Invariants, and the states of the code.
pub mod Memo
pub mod Starts
pub mod Walks
