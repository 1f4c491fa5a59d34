-- What public contracts cite.
pub mod Lines
pub mod Runs
pub mod Stops
pub mod Tells
pub mod Words
