pub mod OverlayError
pub mod OverlayFault
pub mod PatchedData
pub mod PatchedOverlay
pub mod Private
pub mod Texts
