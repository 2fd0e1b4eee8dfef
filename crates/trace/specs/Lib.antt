pub mod Cells
pub mod Faults
pub mod Layers
pub mod Rows
pub mod Signs
pub mod Tallies
