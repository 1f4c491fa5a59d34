-- What public contracts cite.
pub mod Folding
-- The states of the code.
pub mod Leads
pub mod Links
pub mod Checks
pub mod Built
