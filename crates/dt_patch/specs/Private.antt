-- What only the contracts of private functions cite.
pub mod Cutting
pub mod Ends
pub mod Gaps
pub mod Naming
pub mod PartPlaces
pub mod Pieces
pub mod Places
pub mod Planning
pub mod Reservations
pub mod Splicing
