-- What private contracts cite: what a text comes to while its files are open, places, files at paths. No public clause rests on it.
pub mod Included
pub mod Places
pub mod Sought
