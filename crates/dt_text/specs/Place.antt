pub mod Positions
pub mod Located
