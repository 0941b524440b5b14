-- Definitions of the steps that the contracts cite.
pub mod Taking
