pub mod Written
pub mod Texts
