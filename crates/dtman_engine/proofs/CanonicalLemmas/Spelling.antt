-- The lexemes of the canonical source spell a source without faults, which says the tree.
pub mod Slices
pub mod Readings
pub mod Strung
pub mod Quotes
pub mod Cells
pub mod Meanings
pub mod Statements
pub mod Sources
