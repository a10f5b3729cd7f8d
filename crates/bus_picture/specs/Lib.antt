pub mod Arrows
pub mod Escape
pub mod Shown
pub mod States
pub mod Why
