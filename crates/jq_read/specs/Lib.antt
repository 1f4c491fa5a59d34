-- What public contracts cite.
pub mod CallArguments
pub mod Chains
pub mod Functions
pub mod Limits
pub mod Script
pub mod Statements
pub mod States
-- Invariants, and the states of the code.
pub mod Readers
pub mod Sequences
pub mod Views
