pub mod Takes
pub mod Components
pub mod Reached
pub mod Private
