pub mod Applied
pub mod Fault
pub mod Rows
pub mod Shifted
pub mod Texts
