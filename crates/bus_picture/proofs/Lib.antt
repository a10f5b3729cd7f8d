mod EscapeLemmas
mod RangeLemmas
mod ShownLemmas
pub mod WhyLemmas
