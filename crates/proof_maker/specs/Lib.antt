-- What public contracts cite.
pub mod Forests
pub mod Needs
pub mod PlaceMemos
-- Invariants, and the states of the code.
pub mod Arrivals
pub mod Entries
pub mod Glances
pub mod Items
pub mod Making
pub mod Numbering
pub mod Reasons
pub mod Tellings
pub mod Working
pub mod Worklist
pub mod Worlds
