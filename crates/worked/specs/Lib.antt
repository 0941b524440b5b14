pub mod Lathe
pub mod Findings
pub mod Cases
pub mod Written
