-- What public contracts cite.
pub mod Arguments
pub mod Chains
pub mod Objects
pub mod Outer
pub mod Runs
pub mod Texts
pub mod Values
