pub mod Private
pub mod Sorted
