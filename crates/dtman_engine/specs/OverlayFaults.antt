-- The faults of an overlay on its base.
use Rattle.std.specs.Prelude.{codes}
use Rattle.dt_source.specs.OverlayMeaning.Fault as meaning
use Rattle.dt_overlay.specs.declared.fixup.error.OverlayError.{OverlayError}
use Rattle.dt_overlay.specs.Fixup.OverlayError.{number_of, name_of}
use Rattle.dtman_engine.specs.Fault.{FaultValue}
use Rattle.dtman_engine.specs.declared.fault.Position.TheVariants.{Nowhere}

abbrev pub overlay_fault : OverlayError → FaultValue
overlay_fault error = record { number = number_of error; name = name_of error; position = Nowhere }

-- what is told of each fault that the meaning has
abbrev pub meant_fault : meaning.Fault → FaultValue
meant_fault meaning.NotOverlay = record { number = 40; name = codes "NotOverlay"; position = Nowhere }
meant_fault meaning.NoTarget = record { number = 41; name = codes "NoTarget"; position = Nowhere }
meant_fault meaning.UnknownSymbol = record { number = 42; name = codes "UnknownSymbol"; position = Nowhere }
meant_fault meaning.BadFixup = record { number = 43; name = codes "BadFixup"; position = Nowhere }
meant_fault meaning.PhandleOverflow = record { number = 44; name = codes "PhandleOverflow"; position = Nowhere }
meant_fault meaning.PhandleClash = record { number = 45; name = codes "PhandleClash"; position = Nowhere }
meant_fault meaning.TooDeep = record { number = 46; name = codes "TooDeep"; position = Nowhere }
