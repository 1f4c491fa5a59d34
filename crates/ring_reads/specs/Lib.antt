-- What public contracts cite.
pub mod Readings
pub mod RingScripts
pub mod RingWords
