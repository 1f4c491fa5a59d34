-- What public contracts cite.
pub mod Adding
pub mod CellMap
pub mod Ends
pub mod Laws
pub mod Rounds
pub mod Starts
pub mod Terms
-- Invariants, and the states of the code.
pub mod CellRows
pub mod Children
pub mod Givers
