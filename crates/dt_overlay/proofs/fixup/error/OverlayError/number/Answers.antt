use Rattle.std.proofs.Common.{ap, sym}
use Rattle.dt_overlay.specs.Fixup.OverlayError.{number_of}
use Rattle.dt_overlay.proofs.fixup.error.OverlayError.number.Goals as goal

pub returns-in-PhandleOverflow : goal.returns-in-PhandleOverflow
returns-in-PhandleOverflow c = sym (ap number_of c.in-PhandleOverflow.is)
