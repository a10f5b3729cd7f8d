pub mod Bytes
pub mod Directive
pub mod Opening
pub mod Reach
pub mod Spelling
