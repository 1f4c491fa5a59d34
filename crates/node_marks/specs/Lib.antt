-- What public contracts cite.
pub mod Marks
pub mod Numbering
pub mod Ranks
-- The states of the code.
pub mod Passes
