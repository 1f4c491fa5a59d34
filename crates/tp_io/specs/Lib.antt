-- What public contracts cite.
pub mod Counts
pub mod Files
pub mod MemoryFiles
pub mod MemorySinks
pub mod Sinks
pub mod Streams
-- How a list of loads is kept.
pub mod LoadLists
