mod CounterBits
mod NextCounters
mod CountersLeft
mod OwnCounters
pub mod RequestRows
pub mod Unpacking
mod Leaving
mod Admitting
mod Trying
mod SecondCounters
pub mod Giving
mod LoopSteps
pub mod RuledRows
pub mod FreeBeside
