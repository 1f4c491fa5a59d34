-- What public contracts cite.
pub mod Values
