pub mod Checks
pub mod Looks
pub mod Standing
pub mod Ties
pub mod Tries
