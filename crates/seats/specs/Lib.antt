pub mod Seats
pub mod Standing
pub mod Answers
pub mod Calls
pub mod inner
