-- What the contracts and the statements speak of.
pub mod Replies
pub mod Reader
pub mod LineLists
-- Statements: what is claimed of it.
pub mod LinesAnswered
pub mod NamedLines
pub mod LinesAreCalls
pub mod LinesSay
pub mod OutputSays
pub mod Demand3OfLines
pub mod ShorterPromiseOfLines
pub mod NeverShort
pub mod ReplyLength
pub mod ReplyBytes
pub mod Examples
