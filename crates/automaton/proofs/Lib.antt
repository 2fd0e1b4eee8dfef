-- The files of proofs, lowest first.
pub mod Fitting
pub mod Automata
pub mod Wrong
pub mod Judging
pub mod Tagged
pub mod Pending
pub mod Ticks
pub mod Search
pub mod Examples
