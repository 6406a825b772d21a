-- What the contracts and the statements speak of.
pub mod Stream
pub mod Feeds
-- Statements: what is claimed of it.
pub mod LineByLine
pub mod LongLines
pub mod UnfinishedLines
pub mod Transcript
pub mod Cutting
pub mod FeedRules
pub mod FeedCutting
pub mod KeptBytes
pub mod Tries
pub mod OrderTries
pub mod PreciseTries
pub mod NameTries
pub mod FeedTries
