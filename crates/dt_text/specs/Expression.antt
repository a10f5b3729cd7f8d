pub mod Character
pub mod Expression
pub mod Values
pub mod Reading
pub mod ReadingExpressions
pub mod ReadingOperators
pub mod Element
pub mod Escape
