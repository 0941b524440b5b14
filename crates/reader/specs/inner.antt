pub mod Settled
pub mod Turned
