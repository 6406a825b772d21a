pub mod Answering
pub mod Selections
