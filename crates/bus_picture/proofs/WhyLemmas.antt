pub mod TimesLemmas
pub mod WalkLemmas
pub mod HoldLemmas
pub mod FollowLemmas
pub mod ListedLemmas
