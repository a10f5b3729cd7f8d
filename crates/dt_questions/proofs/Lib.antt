pub mod MapLemmas
pub mod StepLemmas
