-- What public contracts cite.
pub use Rattle.proof_check.specs.Validity
pub use Rattle.proof_check.specs.Unfolding
pub mod Readings
pub mod Worlds
-- The states of the code.
pub mod AddedChildren
pub mod KeyedLists
pub mod NodePasses
pub mod PagePasses
pub mod Passes
pub mod Trails
pub mod Walks
