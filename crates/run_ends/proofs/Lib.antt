pub mod StopLemmas
mod Rows
