-- What private contracts cite: what is made of a draft, and how far the code has come. No public clause rests on it.
pub mod ByLabel
pub mod Drafts
pub mod DtcDrafts
pub mod DtcTrees
pub mod FirstPhandle
pub mod Fitting
pub mod FixupSites
pub mod LocalFixups
pub mod Made
pub mod Named
pub mod NodePhandles
pub mod Places
pub mod Ready
pub mod SourceValues
pub mod Values
