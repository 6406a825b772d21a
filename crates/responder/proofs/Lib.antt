pub mod Putting
pub mod Numerals
pub mod AskedReplies
pub mod LineTexts
pub mod Delivering
