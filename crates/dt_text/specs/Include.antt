pub mod Bytes
pub mod Inclusion
pub mod Private
pub mod Searching
pub mod Shortfall
pub mod UserLines
pub mod Words
