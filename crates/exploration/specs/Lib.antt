-- The files of definitions, and the theorems that are wanted, lowest first.
pub mod Stage
pub mod Verdicts
pub mod Links
pub mod Cells
pub mod Pairs
pub mod Explore
pub mod Drawing
pub mod Examples
