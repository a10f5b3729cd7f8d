pub mod Answers
pub mod OwnNames
pub mod Sources
pub mod Table
