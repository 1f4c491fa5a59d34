-- What public contracts cite.
pub mod Budgets
