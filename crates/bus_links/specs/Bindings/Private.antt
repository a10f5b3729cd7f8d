-- What only the contracts of private functions cite: a reader of the public ones needs none of it.
pub mod Ends
pub mod Walk
