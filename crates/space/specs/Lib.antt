pub mod Cells
