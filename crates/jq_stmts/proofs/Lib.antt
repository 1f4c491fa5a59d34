pub mod BackLemmas
pub mod ReadableLemmas
pub mod SharpLemmas
