-- Statements, computed.
pub mod Runs
pub mod TurnsRuns
pub mod LoneRuns
pub mod ShorterRuns
pub mod LentRuns
