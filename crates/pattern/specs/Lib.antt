-- The files of definitions, and the theorems that are wanted, lowest first.
pub mod Patterns
pub mod Fits
pub mod Images
pub mod Rows
pub mod Words
pub mod Laws
pub mod Examples
