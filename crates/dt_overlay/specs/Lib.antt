pub mod Applied
pub mod Fixup
pub mod Laws
pub mod Private
pub mod ShiftedPlaces
pub mod Union
