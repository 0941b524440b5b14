pub mod Lines
pub mod Spellings
pub mod Limits
pub mod Texts
pub mod inner
