pub mod DtcLemmas
