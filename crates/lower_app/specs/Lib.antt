-- What public contracts cite.
pub mod Calls
pub mod Entries
pub mod Files
pub mod Lines
pub mod Output
pub mod Quoting
