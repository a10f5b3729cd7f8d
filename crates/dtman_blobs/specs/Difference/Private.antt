-- What only the contracts of private functions cite: a reader of the public ones needs none of it.
pub mod Differences
pub mod Kept
pub mod Left
pub mod Listed
pub mod Orders
pub mod FormView
pub mod Sights
pub mod Tests
pub mod Things
pub mod Views
