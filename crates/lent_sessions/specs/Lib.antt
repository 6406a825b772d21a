-- What the contracts and the statements speak of.
pub mod Records
pub mod Lent
pub mod LentFaultTable
pub mod Histories
-- Statements: what is claimed of it.
pub mod RowRules
pub mod BrokenRows
pub mod LentFaults
pub mod LentUnchanged
pub mod SameAsSmall
pub mod LentTurnPlan
pub mod LentDemand3
pub mod LentShorterPromise
