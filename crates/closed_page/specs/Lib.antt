-- What public contracts cite.
pub mod ClosedPages
pub mod FirstChildren
pub mod Firsts
pub mod Gains
pub mod Labelled
pub mod Notes
pub mod Relabelled
pub mod Spread
pub mod Views
-- The states of the code.
pub mod Numbered
pub mod Runs
pub mod Spreading
