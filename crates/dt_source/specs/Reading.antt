-- Reading a source from left to right. No meaning rests on this: private contracts cite it, the laws that join it to the
-- spelling of sources, and the place at which a text that is no source stops.
pub mod Answers
pub mod Several
pub mod Values
pub mod Files
pub mod Bodies
pub mod Loops
pub mod Whole
pub mod Returned
pub mod Filling
