-- What public contracts cite.
pub mod Arguments
pub mod Bindings
pub mod Calls
pub mod Markup
pub mod Parameters
pub mod Roots
pub mod ScopeViews
pub mod Scopes
pub mod Stating
pub mod Views
-- Invariants, and the states of the code.
pub mod Places
