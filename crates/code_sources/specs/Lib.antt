-- What public contracts cite.
pub mod Attributes
pub mod Bytes
pub mod References
pub mod Scripts
pub mod Sources
pub mod Tags
pub mod Views
