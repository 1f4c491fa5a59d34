-- What public contracts cite.
pub mod Effects
pub mod Held
pub mod Holders
pub mod Order
pub mod Pieces
pub mod Places
pub mod Pruned
pub mod Readable
pub mod Reading
pub mod Results
pub mod Rules
pub mod Shapes
pub mod Sheets
pub mod Units
pub mod Views
-- Invariants, and the states of the code.
pub mod Drafts
pub mod FoundHolders
pub mod FoundViews
pub mod Fronts
