-- Statements: what is claimed of it.
pub mod Progress
pub mod OutputRead
-- The code's own: how it holds its values. No claim.
pub mod Pieces
pub mod Blocks
pub mod Passing
