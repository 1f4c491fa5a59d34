-- What public contracts cite.
pub mod Closers
pub mod Holes
pub mod Pieces
