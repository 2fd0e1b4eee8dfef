-- The files of proofs, lowest first.
pub mod Cover
pub mod Keep
pub mod Links
pub mod Cells
pub mod Counting
pub mod Pairs
pub mod Explore
pub mod Drawn
pub mod Drawing
pub mod Examples
