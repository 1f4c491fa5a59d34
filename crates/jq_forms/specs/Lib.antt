-- What public contracts cite.
pub mod Heads
pub mod ListParts
pub mod Openings
pub mod Readers
pub mod Values
