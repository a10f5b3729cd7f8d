pub mod Shown
pub mod Held
pub mod Handles
pub mod Told
pub mod Steps
pub mod Calls
