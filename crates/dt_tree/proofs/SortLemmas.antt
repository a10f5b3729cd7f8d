pub mod InOrder
pub mod Lookups
pub mod Nodes
pub mod Reserves
