-- What public contracts cite.
pub mod Asked
pub mod Known
pub mod Names
pub mod Properties
-- What private contracts cite.
pub mod Putting
