pub mod RowRules
pub mod LentCalls
pub mod LentUnchanged
pub mod BrokenRows
pub mod LentHistories
pub mod LentTurnPlan
pub mod SameAsSmall
pub mod LentFaults
