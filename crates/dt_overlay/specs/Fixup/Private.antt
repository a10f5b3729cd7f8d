-- What private contracts cite. No public clause rests on it.
pub mod FixedNodes
pub mod Fixing
pub mod Fragments
pub mod Marks
pub mod Rows
pub mod Steps
pub mod TakenSites
pub mod Walk
