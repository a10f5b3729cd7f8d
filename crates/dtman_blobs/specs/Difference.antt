pub mod Comparison
pub mod Difference
pub mod Forms
pub mod Named
pub mod Private
pub mod SameBoard
pub mod SameOrder
pub mod Seen
