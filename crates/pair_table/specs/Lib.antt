-- What contracts and invariants cite.
pub mod Hashes
pub mod Rows
