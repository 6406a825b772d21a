pub mod DigitLoops
pub mod FieldParts
pub mod FieldLoops
pub mod NumberLines
