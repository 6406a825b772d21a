pub mod Places
pub mod HeadSessions
pub mod Calls
pub mod Parting
pub mod Turning
