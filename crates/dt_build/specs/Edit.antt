pub mod Admitted
pub mod DtcFaultPlaces
pub mod EditFault
pub mod FaultPlaces
pub mod Fragments
pub mod Private
pub mod Said
pub mod Standing
