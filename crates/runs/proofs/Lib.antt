pub mod AcceptanceTests
pub mod ShorterRuns
