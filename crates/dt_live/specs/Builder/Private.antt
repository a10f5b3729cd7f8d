-- What private contracts cite: the fields of a tree builder, and how far a tree is made, for the crates above. No public clause rests on it.
pub mod Making
pub mod NodeBuilders
