pub mod WhiteEnds
pub mod Reaching
pub mod Lowering
