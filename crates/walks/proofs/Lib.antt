pub mod Again
pub mod CallSteps
pub mod LentArray
pub mod LentPart
pub mod Loop
pub mod FieldReads
pub mod Frees
pub mod LargeConstants
