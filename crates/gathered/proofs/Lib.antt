pub mod GatheredLemmas
pub mod MovingLemmas
