-- What public contracts cite.
pub mod Asking
-- Invariants, and the states of the code.
pub mod Indexes
