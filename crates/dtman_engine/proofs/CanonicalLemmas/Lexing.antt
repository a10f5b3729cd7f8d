-- The canonical source cut into lexemes: each stands where it is, and is the longest there.
pub mod Segments
pub mod Marks
pub mod Names
pub mod Numbers
pub mod Texts
pub mod Strings
pub mod Elements
pub mod Values
pub mod Lines
pub mod Whole
