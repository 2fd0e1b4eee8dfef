-- The files of definitions, lowest first.
pub mod Memory
pub mod Moves
pub mod Tables
pub mod Exploring
pub mod Words
pub mod Plots
pub mod Refusals
pub mod Judged
pub mod Drawings
