pub mod Ascent
pub mod BlobWords
