pub mod Found
pub mod Rows
pub mod Counters
pub mod Left
pub mod Filters
pub mod Remaining
pub mod Beside
