-- What only the contracts of private functions cite: a reader of the public ones needs none of it.
pub mod Entries
pub mod Matching
pub mod PhandleIndex
pub mod Planning
pub mod Suppliers
pub mod Walk
