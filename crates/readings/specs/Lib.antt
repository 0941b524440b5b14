pub mod Scales
pub mod Prices
pub mod Cheapest
pub mod inner
pub mod Laws
