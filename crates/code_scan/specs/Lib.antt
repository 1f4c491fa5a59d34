-- What public contracts cite.
pub mod Blanks
pub mod Escapes
pub mod Fronts
pub mod Lines
pub mod Names
pub mod Regexes
pub mod SameTokens
pub mod Scans
pub mod Spellings
pub mod States
pub mod Texts
pub mod Tokens
pub mod Views
