-- What public contracts cite.
pub mod Ring
