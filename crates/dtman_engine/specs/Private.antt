-- What private contracts cite: what the engines' parts answer. No public clause rests on it.
pub mod CompilingDtc
pub mod Printing
pub mod Running
