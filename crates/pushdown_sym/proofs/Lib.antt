pub mod Tests
pub mod TermLemmas
pub mod CellLemmas
pub mod GrownLemmas
pub mod SameLemmas
pub mod AddLemmas
pub mod SeenLemmas
pub mod SmallLemmas
pub mod LinkLemmas
mod DifferentLemmas
mod ChildLemmas
pub mod MapLemmas
mod CellRowLemmas
mod Rows
mod GiverLemmas
mod PlaceLemmas
mod StandingLemmas
mod DoorLemmas
mod NoteLemmas
mod StartLemmas
pub mod EndLemmas
