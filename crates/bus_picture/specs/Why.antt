pub mod Order
pub mod Chain
pub mod Private
