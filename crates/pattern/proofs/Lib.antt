-- The files of proofs, lowest first.
pub mod Any
pub mod Texts
pub mod Full
pub mod Words
pub mod Bitwise
pub mod Places
pub mod Extends
pub mod Spelling
pub mod Marks
pub mod Factors
pub mod Filling
pub mod Laws
pub mod Examples
