pub mod Table
pub mod Contexts
pub mod Steps
pub mod Theorems
pub mod Columns
pub mod inner
