pub mod CountLemmas
pub mod CountedLemmas
pub mod DriverLemmas
pub mod HistoryLemmas
pub mod LateCounts
pub mod LateLemmas
pub mod LeastLemmas
pub mod Lists
pub mod PartingLemmas
mod PathLemmas
pub mod QuietLemmas
pub mod ReachedLemmas
pub mod ReplayLaws
pub mod ReplayLemmas
pub mod ReportLemmas
pub mod SetLemmas
pub mod SettlingLemmas
pub mod SoundLemmas
