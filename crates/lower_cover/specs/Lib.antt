-- What public contracts cite.
pub mod Covering
pub mod Edits
pub mod Outputs
