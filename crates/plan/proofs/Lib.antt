-- The modules of the proofs, lowest first.
pub mod Pushing
pub mod Columns
pub mod Building
pub mod Soundness
pub mod Fitting
pub mod Marks
pub mod Reading
