pub mod HeldBytes
pub mod Lexing
pub mod MeaningEdits
pub mod MeaningLists
pub mod MeaningPhandles
pub mod MeaningWhole
pub mod OneTree
pub mod Spelling
