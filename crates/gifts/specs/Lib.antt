-- What public contracts cite.
pub mod Attributes
pub mod Classes
pub mod Given
pub mod Ids
