-- What public contracts cite.
pub mod Keys
pub mod Choices
pub mod Dealing
pub mod Following
pub mod Names
pub mod Numbers
pub mod Orders
pub mod Premises
pub mod Sets
pub mod Spots
pub mod Ties
pub mod Triples
pub mod Wants
