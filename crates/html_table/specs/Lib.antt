-- What public contracts cite.
pub mod Elements
pub mod NameNotes
pub mod TreeTable
pub mod Views
-- The states of the code.
pub mod NamePlaces
pub mod Outward
