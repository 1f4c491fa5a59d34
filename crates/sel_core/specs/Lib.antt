-- What public contracts cite.
pub mod Selectors
-- Invariants, and the states of the code.
pub mod Places
