pub mod BindingsLemmas
pub mod LawfulLinks
pub mod MakingLemmas
mod MentionsLemmas
mod NoCycle
mod RefusalLemmas
