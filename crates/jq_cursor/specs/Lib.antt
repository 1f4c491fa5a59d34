-- What public contracts cite.
pub mod Keywords
pub mod LastPlaces
pub mod ListViews
pub mod Lists
pub mod Selections
pub mod TextArguments
-- Invariants, and the states of the code.
pub mod Commas
pub mod Notes
pub mod Spans
