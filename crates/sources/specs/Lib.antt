pub mod Meanings
pub mod Messages
pub mod Codings
pub mod Piles
pub mod Laws
pub mod Values
