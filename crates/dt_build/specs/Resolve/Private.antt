-- What private contracts cite. No public clause rests on it.
pub mod CellOf
pub mod Filled
pub mod Gathering
pub mod GivenByBoth
pub mod Gone
pub mod ReadProperty
pub mod SymbolNumbers
pub mod Targets
pub mod Wanted
