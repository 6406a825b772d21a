-- What the contracts and the statements speak of.
pub mod EventNames
pub mod Rows
pub mod Lists
pub mod LookUp
pub mod Named
-- Statements: what is claimed of it.
pub mod NamesTested
pub mod RowGrammar
pub mod RowsFound
pub mod NamedRequests
pub mod NamedFields
pub mod Examples
