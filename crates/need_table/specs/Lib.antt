-- What public contracts cite.
pub mod PlainTables
-- Invariants, and the states of the code.
pub mod Agendas
pub mod PlainViews
pub mod Rows
pub mod Tables
pub mod Turns
