-- The modules of the definitions: the sets and the patterns of a plan, what its tables hold, and what the values of the code mean.
pub mod Sets
pub mod Spans
pub mod Tables
pub mod Views
