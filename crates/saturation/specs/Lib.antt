-- What public contracts cite.
pub mod Budgets
pub mod Held
pub mod Shared
-- Invariants, and the states of the code.
pub mod Courses
pub mod Histories
pub mod HistoryMap
pub mod Invariant
pub mod Reads
pub mod Saturation
pub mod Starting
pub mod Tables
pub mod Waking
