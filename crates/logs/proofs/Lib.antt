pub mod Blocks
pub mod EventLogs
