-- The files of lemmas.
pub mod Groups
pub mod Letters
pub mod States
pub mod Turns
pub mod Verdicts
pub mod Entries
pub mod Plotting
