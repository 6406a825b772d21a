pub mod Passing
pub mod Relayed
pub mod Fitness
pub mod Endings
pub mod Completed
