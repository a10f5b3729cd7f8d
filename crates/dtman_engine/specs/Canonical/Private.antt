-- What the proofs of the laws cite. No public clause rests on it.
pub mod Lexed
