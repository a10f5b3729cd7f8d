pub mod Descent
pub mod WayLemmas
