-- What the contracts and the statements speak of.
pub mod NamedText
pub mod ParseWith
-- Statements: what is claimed of it.
pub mod ParsedLines
pub mod LongLines
pub mod FirstBroken
pub mod Examples
