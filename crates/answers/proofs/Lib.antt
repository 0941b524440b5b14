pub mod Cuts
pub mod Messaging
pub mod Places
pub mod Spacing
pub mod Splits
pub mod Walks
