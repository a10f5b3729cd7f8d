pub mod InLemmas
pub mod TakesLemmas
pub mod WalkLemmas
pub mod StampLemmas
pub mod ClassLemmas
pub mod GivenLemmas
