-- What public contracts cite.
pub mod Events
pub mod Exact
pub mod Laws
pub mod Ordered
pub mod Room
pub mod Scripts
pub mod Settling
pub mod SharpProofs
-- The states of the code.
pub mod Firsts
pub mod Replays
pub mod Standing
pub mod Together
