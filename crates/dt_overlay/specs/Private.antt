-- What private contracts cite. No public clause rests on it.
pub mod Additions
pub mod Applying
pub mod Fragments
pub mod Making
pub mod Merging
pub mod SymbolTargets
pub mod Symbols
