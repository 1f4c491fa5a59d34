-- What public contracts cite: all of it.
pub mod Refusals
pub mod Stops
pub mod Tells
