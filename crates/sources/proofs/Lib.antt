pub mod Alike
pub mod Begun
pub mod Equal
pub mod First
pub mod Layers
pub mod Scans
pub mod Stretches
