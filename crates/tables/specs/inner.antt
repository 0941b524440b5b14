pub mod Sets
pub mod Related
pub mod Cells
pub mod Growth
