-- What public contracts cite.
pub mod Parts
pub mod Orders
-- The same as clap reads it, and as its matches say it.
pub mod Command
pub mod Says
