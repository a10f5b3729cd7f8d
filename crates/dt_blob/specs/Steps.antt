-- What private contracts cite: how far the code has come. No public clause rests on it, so that a reader need not believe it.
pub mod Answered
pub mod NodeBuilders
pub mod Printed
pub mod Reading
pub mod Table
pub mod TreeFault
pub mod Written
