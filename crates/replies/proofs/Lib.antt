pub mod Wordings
pub mod Turns
