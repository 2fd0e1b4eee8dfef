-- The files of definitions, and the theorems that are wanted, lowest first.
pub mod Automata
pub mod Wrong
pub mod Machines
pub mod Judging
pub mod Tagged
pub mod Search
pub mod Examples
