pub mod Runs
pub mod TurnLemmas
pub mod Walks
pub mod EndLemmas
pub mod SpeltLemmas
pub mod ViewLemmas
pub mod OrderLemmas
pub mod ReadLemmas
pub mod NumberLemmas
pub mod WordLemmas
pub mod LawLemmas
mod Rows
