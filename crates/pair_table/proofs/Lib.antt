pub mod RowLemmas
mod SetLemmas
