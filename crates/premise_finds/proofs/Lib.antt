pub mod ByteLemmas
pub mod NameLists
pub mod SetNames
pub mod SelectorSteps
pub mod SheetSteps
