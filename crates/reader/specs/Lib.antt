pub mod Reads
pub mod Runs
pub mod Mixed
pub mod inner
