pub mod Arrays
pub mod Queues
pub mod Assigning
pub mod Searching
pub mod Selecting
pub mod Turning
pub mod TakingTurns
