-- What the contracts and the statements speak of.
pub mod Layout
pub mod Settings
pub mod Writes
pub mod Read
pub mod Told
-- Statements: what is claimed of it.
pub mod PermittedBits
pub mod CBoxAddresses
pub mod NoReservedBit
pub mod LatencyHeld
pub mod OthersUntouched
pub mod FixedEnables
pub mod UsedEnabled
pub mod UsedCounts
pub mod EventWords
pub mod UnusedResponses
pub mod RisingWrites
pub mod UBox
pub mod RestWhileWritten
pub mod PreciseEvents
pub mod CBoxWrites
pub mod WriteCount
pub mod SliceNumbers
pub mod EmptyPlan
pub mod RoundTrip
pub mod ExactReader
pub mod NotLookedAt
pub mod ToldPlaces
pub mod CounterReadings
pub mod Examples
pub mod OrderExamples
pub mod ReadingExamples
-- The code's own: how it holds its values. No claim.
pub mod Slices
