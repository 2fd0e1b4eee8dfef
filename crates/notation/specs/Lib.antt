-- The modules of the definitions: how a text is read, which texts write a plan, the numbers and the reasons of refusals, examples.
pub mod Reading
pub mod Grammar
pub mod Numbers
pub mod Refusals
pub mod Examples
