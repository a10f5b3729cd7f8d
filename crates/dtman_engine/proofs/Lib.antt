pub mod CanonicalLemmas
mod ChannelLemmas
mod CompileDtcLemmas
pub mod CompileLemmas
mod CopyLemmas
mod CulpritLemmas
mod DumpLemmas
mod ExplainLemmas
mod HeaderLemmas
mod LawLemmas
mod OneAnswers
mod OneApplied
pub mod OneBuilt
mod OneDtc
mod OneErrors
pub mod OverlayLemmas
mod RunLemmas
mod SortLemmas
pub mod ValueSizes
