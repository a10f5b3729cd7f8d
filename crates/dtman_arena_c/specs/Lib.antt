pub mod Blocks
pub mod Laws
pub mod Marks
pub mod Told
