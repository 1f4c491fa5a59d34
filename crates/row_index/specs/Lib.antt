-- What public contracts cite.
pub mod Rows
-- The states of the code.
pub mod Held
