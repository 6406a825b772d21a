-- What the contracts and the statements speak of.
pub mod Lists
pub mod Places
pub mod Legal
pub mod Order
pub mod Narrowed
pub mod Search
-- Statements: what is claimed of it.
pub mod LegalInWords
pub mod FirstPlan
pub mod PlanTest
pub mod PlanLength
pub mod Parts
pub mod Reach
pub mod FilterWords
pub mod Extends
pub mod PrecisePlans
pub mod PlanTries
-- The code's own: how it holds its values. No claim.
pub mod Packed
