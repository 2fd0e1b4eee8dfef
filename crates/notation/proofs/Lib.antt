-- The modules of the proofs, lowest first.
pub mod Signs
pub mod Turns
pub mod Sets
mod Bitwise
mod Steps
pub mod Lines
pub mod Examples
mod Wrong
pub mod Refusing
pub mod Plans
