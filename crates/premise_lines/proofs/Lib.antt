pub mod StopLemmas
pub mod TextLemmas
pub mod ValueLemmas
pub mod WritingLemmas
mod Rows
