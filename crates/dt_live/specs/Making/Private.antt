-- What private contracts cite. No public clause rests on it.
pub mod Walks
