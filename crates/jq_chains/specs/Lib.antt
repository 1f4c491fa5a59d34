-- What public contracts cite.
pub mod Links
pub mod MarkedCalls
pub mod Marks
pub mod SharedCalls
pub mod SharedChains
