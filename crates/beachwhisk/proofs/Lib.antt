pub mod Alikes
pub mod SameHalls
pub mod Sheets
pub mod Readings
