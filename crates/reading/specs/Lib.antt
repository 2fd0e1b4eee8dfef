-- The files of definitions, lowest first.
pub mod Cells
pub mod Hits
pub mod Spots
pub mod Standing
pub mod Admission
pub mod Histories
pub mod Promise
pub mod Sessions
pub mod Texts
