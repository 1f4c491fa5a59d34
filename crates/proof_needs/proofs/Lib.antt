pub mod SetLemmas
pub mod KeyLemmas
pub mod SortLemmas
pub mod OrderLemmas
pub mod NumberLemmas
pub mod NameLemmas
pub mod TieLemmas
pub mod PremiseLemmas
