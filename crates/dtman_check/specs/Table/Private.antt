-- What only the contracts of private functions cite: a reader of the public ones needs none of it.
pub mod Classes
pub mod Near
pub mod Passed
pub mod Reference
pub mod Units
