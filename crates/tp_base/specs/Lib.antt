-- What public contracts cite.
pub mod Classes
pub mod Cursor
pub mod Losses
pub mod Names
pub mod Outcomes
pub mod Places
