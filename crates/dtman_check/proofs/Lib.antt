pub mod ClassLemmas
pub mod FoundLemmas
pub mod OrderLemmas
pub mod OwnNamesLemmas
pub mod RowLemmas
pub mod TableLemmas
pub mod UnitsLemmas
pub mod UnknownLemmas
