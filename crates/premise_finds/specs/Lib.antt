-- What public contracts cite.
pub mod Findings
pub mod Orders
pub mod NameTexts
pub mod Details
pub mod Selectors
pub mod SheetNames
pub mod Sheets
pub mod Texts
