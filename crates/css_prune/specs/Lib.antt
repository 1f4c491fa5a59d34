-- What public contracts cite.
pub mod Alike
pub mod NodeEffects
-- Invariants, and the states of the code.
pub mod Copying
pub mod Flags
pub mod Groups
pub mod Holding
pub mod Lists
pub mod Parts
