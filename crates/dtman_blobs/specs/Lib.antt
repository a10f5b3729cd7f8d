pub mod Asking
pub mod Diff
pub mod Difference
pub mod Saying
pub mod Widening
pub mod Width
