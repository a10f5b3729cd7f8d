pub mod ExpressionLemmas
pub mod IncludeLemmas
pub mod LexemeLemmas
pub mod PlaceLemmas
