-- What public contracts cite.
pub mod Between
