pub mod BoardBlob
pub mod Dependencies
pub mod Outcome
pub mod Shortfall
pub mod SourceFiles
pub mod UserFault
