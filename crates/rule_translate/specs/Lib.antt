-- What public contracts cite.
pub mod Laws
pub mod Translation
