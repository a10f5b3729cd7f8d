pub mod Boards
pub mod Crossing
pub mod Dtc
pub mod Engines
pub mod Naming
