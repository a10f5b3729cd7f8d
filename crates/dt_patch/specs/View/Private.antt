-- What private contracts cite. No public clause rests on it, so that a reader need not believe it.
pub mod Levels
pub mod Reading
pub mod Stages
