pub mod Builders
pub mod Lists
pub mod Private
pub mod Sizes
pub mod Standing
