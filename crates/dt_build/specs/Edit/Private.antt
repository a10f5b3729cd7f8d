-- What private contracts cite: how far the code has come. No public clause rests on it.
pub mod AllRead
pub mod BootReg
pub mod DtcEdited
pub mod Edited
pub mod LabelFault
pub mod Made
pub mod PlaceFault
pub mod Progress
pub mod Ready
pub mod StandFault
