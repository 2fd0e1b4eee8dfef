pub mod Faults
pub mod Tallies
