pub mod Parts
pub mod Raw
pub mod Steps
pub mod Told
