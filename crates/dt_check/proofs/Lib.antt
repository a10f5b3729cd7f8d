pub mod CellLemmas
pub mod LinksLemmas
pub mod ListLemmas
pub mod MarkLemmas
pub mod PlaceLemmas
pub mod WalkLemmas
