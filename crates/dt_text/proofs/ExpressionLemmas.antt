pub mod Literals
pub mod Steps
pub mod Operators
pub mod Sound
pub mod Complete
pub mod Trees
pub mod Unescaping
