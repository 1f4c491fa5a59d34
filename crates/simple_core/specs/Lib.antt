-- What public contracts cite.
pub mod Firsts
pub mod Forests
pub mod Givers
pub mod Growth
pub mod Knowledge
pub mod Labels
pub mod Pages
pub mod Pairs
pub mod Reached
pub mod Rounds
pub mod SimpleSteps
pub mod Systems
