pub mod ClassLemmas
pub mod Fronts
pub mod Lists
pub mod NamesLemmas
pub mod Numbers
pub mod Rising
pub mod LossLemmas
pub mod Truths
mod Interned
mod PlaceLemmas
mod StoredNames
mod Rows
mod Searches
mod Walks
