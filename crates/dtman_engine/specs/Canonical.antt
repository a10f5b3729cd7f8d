pub mod Bytes
pub mod Conditions
pub mod Laws
pub mod Private
pub mod SourceOf
