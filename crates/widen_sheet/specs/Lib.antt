-- What public contracts cite.
pub mod Command
pub mod Pruned
pub mod Runs
pub mod SameSheet
pub mod Tells
pub mod Wide
pub mod Words
-- What the code has is to the definitions.
pub mod Views
