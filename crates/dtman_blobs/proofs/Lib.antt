pub mod DifferenceLemmas
mod SameLemmas
mod WideningLemmas
