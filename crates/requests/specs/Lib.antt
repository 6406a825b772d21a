-- What the contracts and the statements speak of.
pub mod Answers
pub mod Refusals
pub mod Bits
pub mod Askings
pub mod Devices
pub mod MaskRules
pub mod CBoxEvents
pub mod Catalogue
pub mod EventRules
pub mod Checks
pub mod Faults
-- Statements: what is claimed of it.
pub mod CheckOrder
pub mod Openings
pub mod RefusedRequests
pub mod WellFormedRequests
pub mod LatencyWords
pub mod FaultFields
pub mod PrintedEvents
pub mod CBoxPages
pub mod RuledEvents
pub mod Rounds
pub mod Examples
pub mod FaultExamples
-- The code's own: how it holds its values. No claim.
pub mod Choice
pub mod Masks
pub mod Lookup
pub mod ByCode
