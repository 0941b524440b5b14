-- Definitions that only the contracts inside the crate cite.
pub mod Fields
pub mod Parses
pub mod Interns
pub mod Drafting
