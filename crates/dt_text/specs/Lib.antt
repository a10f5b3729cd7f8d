pub mod Expression
pub mod Include
pub mod Lexeme
pub mod Place
