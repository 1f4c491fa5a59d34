-- What public contracts cite.
pub mod Attributes
pub mod Bytes
pub mod Markup
pub mod Names
pub mod Tokens
pub mod Views
pub mod Words
