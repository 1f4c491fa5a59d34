-- What public contracts cite.
pub mod Checks
pub mod Firsts
pub mod Kept
pub mod NodePaths
pub mod Nodes
pub mod Unfolding
pub mod Validity
