pub mod Blocks
pub mod Causes
pub mod EventLaws
pub mod EventLogs
pub mod Records
pub mod Refusals
pub mod SignLaws
pub mod SignLogs
