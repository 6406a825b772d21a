pub mod Passes
pub mod Relays
pub mod Completed
