pub mod Entries
pub mod Searching
pub mod Standing
pub mod Texts
