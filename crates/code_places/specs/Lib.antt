-- What public contracts cite.
pub mod Enclosing
pub mod Patterns
pub mod Places
pub mod Steps
pub mod Uses
pub mod Words
pub mod Writes
