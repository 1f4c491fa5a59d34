pub mod LineLemmas
pub mod RingLemmas
pub mod SizeLemmas
mod Rows
