pub mod AcceptanceTests
pub mod VerbsRead
pub mod LineTexts
mod LineVerbs
pub mod NamedReading
pub mod ParsedLines
pub mod LongLines
pub mod FirstBroken
