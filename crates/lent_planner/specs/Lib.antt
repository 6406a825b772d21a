-- What is the code's own, and no claim.
pub mod Surveys
pub mod Changes
pub mod Decisions
pub mod Choices
pub mod Turnings
