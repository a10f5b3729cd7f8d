-- Which devices a run has bound, by its notes: those that have settled and whose drivers bind them.
use Rattle.std.specs.Prelude.{◌≡◌, ℕ, ◌<◌, Bool, true, false, ◌&&◌, List, Option, length}
use Rattle.std.specs.List.{slice_index_or}
use Rattle.bus_plan.specs.Plan.{PlannedDevice, verdict_of}
use Rattle.bus_plan.specs.declared.verdict.Verdict.{Verdict}
use Rattle.bus_plan.specs.declared.verdict.Verdict.TheVariants.{Binds, Fails}
use Rattle.bus_manager.specs.Notes.{has_note}

abbrev pub does_bind : Verdict → Bool
does_bind Binds = true
does_bind Fails = false

pub record AreBound (plan : List PlannedDevice) (notes : List (Option ℕ)) (bound : List Bool) : Type 0 where
  pub places : length bound ≡ length plan
  pub each : (d : ℕ) → d < length plan → slice_index_or bound d false ≡ (has_note notes d && does_bind (verdict_of plan d))
