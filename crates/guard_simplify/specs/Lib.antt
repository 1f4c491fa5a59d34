-- What public contracts cite.
pub mod Asked
pub mod Auxiliaries
pub mod Firsts
pub mod Law
pub mod Outcome
pub mod Simplified
-- Invariants, and the states of the code.
pub mod AtomNumbers
pub mod Counted
pub mod ForestRules
pub mod Forests
pub mod KeyRules
pub mod Keys
pub mod Mixed
pub mod NumberSets
pub mod Numbered
pub mod SeenRules
