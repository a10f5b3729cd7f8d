pub mod EndsLemmas
pub mod FoundLemmas
pub mod InterruptLemmas
pub mod WalkLemmas
