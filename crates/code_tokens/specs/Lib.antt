-- What public contracts cite.
pub mod Code
pub mod Members
pub mod Pairs
