-- What public contracts cite.
pub mod Bytes
pub mod Comments
pub mod Escapes
pub mod Marks
pub mod Texts
pub mod Tokens
pub mod Views
-- Invariants, and the states of the code.
pub mod Utf8
