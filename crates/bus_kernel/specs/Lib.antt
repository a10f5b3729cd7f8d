pub mod Image
pub mod Private
pub mod Tables
