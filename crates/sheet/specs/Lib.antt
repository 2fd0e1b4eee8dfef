pub mod Tables
pub mod States
pub mod Refusals
pub mod Files
pub mod Heads
pub mod Views
