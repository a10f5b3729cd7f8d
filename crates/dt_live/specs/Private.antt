-- What private contracts cite: how far the code has come. No public clause rests on it.
pub mod Flattening
pub mod Following
pub mod Lists
pub mod Placing
pub mod Walks
