pub mod Adding
pub mod WriteLists
