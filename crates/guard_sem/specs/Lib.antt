-- What public contracts cite.
pub mod GuardCode
pub mod Guards
pub mod Holding
pub mod Nodes
pub mod OfSelectors
pub mod Rules
-- Invariants, and the states of the code.
pub mod GuardFalls
pub mod Sizes
