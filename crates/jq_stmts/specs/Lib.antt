-- What public contracts cite.
pub mod Sharp
pub mod SharpViews
pub mod Statements
pub mod Tables
pub mod Views
