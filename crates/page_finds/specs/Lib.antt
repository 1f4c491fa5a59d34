-- What public contracts cite.
pub mod Pages
pub mod TagNames
pub mod Tags
pub mod Trees
pub mod Views
