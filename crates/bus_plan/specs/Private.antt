-- What only the contracts of private functions cite: a reader of the public ones needs none of it.
pub mod DeviceLists
pub mod FieldsLeft
pub mod Indexed
pub mod Late
pub mod Places
pub mod Reading
pub mod Waiting
