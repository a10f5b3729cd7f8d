pub mod Aliases
pub mod Endpoint
pub mod Graph
pub mod Interrupts
pub mod Link
pub mod ListingView
pub mod Lists
pub mod Phandles
