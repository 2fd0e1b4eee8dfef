-- The modules of the proofs, lowest first.
pub mod Looking
pub mod Onwards
pub mod Answering
pub mod Fresh
pub mod Accepting
pub mod Lending
pub mod Turning
pub mod Promising
pub mod Performing
