pub mod Cells
pub mod Work
