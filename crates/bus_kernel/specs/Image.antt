pub mod Magic
pub mod Packing
pub mod Width
