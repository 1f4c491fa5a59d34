-- What public contracts cite.
pub mod Classes
pub mod Values
pub mod Words
