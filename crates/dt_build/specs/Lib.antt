pub mod Built
pub mod BuiltByDtc
pub mod Edit
pub mod Places
pub mod Private
pub mod Resolve
