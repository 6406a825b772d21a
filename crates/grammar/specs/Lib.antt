-- What the contracts and the statements speak of.
pub mod Text
pub mod Records
pub mod Fields
pub mod Numbers
pub mod Letters
pub mod Verbs
pub mod Parsed
pub mod Parse
-- Statements: what is claimed of it.
pub mod Grammar
pub mod LineBytes
pub mod LongLines
pub mod FirstBroken
pub mod Examples
