-- What public contracts cite.
pub mod Bytes
pub mod Grammar
pub mod Lists
pub mod Parts
pub mod Readable
pub mod Reading
pub mod Results
pub mod SelectorText
pub mod Selectors
pub mod Syntax
pub mod Views
-- Invariants, and the states of the code.
pub mod Drafts
pub mod Faults
pub mod Machine
