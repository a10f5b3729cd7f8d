pub mod Get
pub mod Private
pub mod Set
pub mod Unheld
