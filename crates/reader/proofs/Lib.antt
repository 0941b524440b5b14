pub mod Answering
pub mod Copies
pub mod Joining
pub mod Refusing
pub mod Turns
