-- Definitions that only the contracts inside the loader cite.
pub mod Closing
pub mod Drafts
pub mod Marking
