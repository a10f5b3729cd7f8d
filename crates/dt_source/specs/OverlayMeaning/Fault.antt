-- Why an overlay isn't applied: 40 to 46.
pub data Fault : Type 0 where
  NotOverlay : Fault
  NoTarget : Fault
  UnknownSymbol : Fault
  BadFixup : Fault
  PhandleOverflow : Fault
  PhandleClash : Fault
  TooDeep : Fault
