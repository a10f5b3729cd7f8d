pub mod Limits
pub mod Reason
