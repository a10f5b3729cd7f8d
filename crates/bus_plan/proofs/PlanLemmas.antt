-- The plan of the devices that lines list.
use Rattle.std.proofs.Common.{◌≡◌, ◌∙◌, ap, ℕ, List, [], ◌∷◌, ◌++◌, map, refl, sym, append_assoc, append-nil}
use Rattle.std.specs.Prelude.{Some, None}
use Rattle.std.specs.Option.{option_or}
use Rattle.bus_plan.specs.declared.error.PlanError.{PlanError}
use Rattle.bus_plan.specs.Plan.{PlannedDevice}
use Rattle.bus_plan.specs.PlanFile.{planned_of, unknown_of}
use Rattle.bus_plan.specs.PlanLines.{DeviceLine, StringsLine}
use Rattle.bus_plan.specs.Private.Reading.{first_unknown}

-- ---- a walk over the lines
-- these are planned, and the others left
pub record IsPlannedTo (known : List (List ℕ)) (lists : List StringsLine) (lines left : List DeviceLine) (done : List PlannedDevice) : Type 0 where
  pub all : map (planned_of known lists) lines ≡ done ++ map (planned_of known lists) left
  pub unknown : first_unknown known lines ≡ first_unknown known left

pub planned-none : (known : List (List ℕ)) (lists : List StringsLine) (lines : List DeviceLine) → IsPlannedTo known lists lines lines []
planned-none known lists lines = record { all = refl; unknown = refl }

pub planned-more : (known : List (List ℕ)) (lists : List StringsLine) (lines rest : List DeviceLine) (d : DeviceLine) (done : List PlannedDevice)
    → IsPlannedTo known lists lines (d ∷ rest) done → unknown_of known d ≡ None → IsPlannedTo known lists lines rest (done ++ planned_of known lists d ∷ [])
planned-more known lists lines rest d done walk known_all = record {
  all = walk.all ∙ sym (append_assoc done (planned_of known lists d ∷ []) (map (planned_of known lists) rest));
  unknown = walk.unknown ∙ ap (λ t. option_or t (first_unknown known rest)) known_all;
}

pub planned-fault : (known : List (List ℕ)) (lists : List StringsLine) (lines rest : List DeviceLine) (d : DeviceLine) (done : List PlannedDevice) (e : PlanError)
    → IsPlannedTo known lists lines (d ∷ rest) done → unknown_of known d ≡ Some e → first_unknown known lines ≡ Some e
planned-fault known lists lines rest d done e walk fault = walk.unknown ∙ ap (λ t. option_or t (first_unknown known rest)) fault

pub planned-all : (known : List (List ℕ)) (lists : List StringsLine) (lines : List DeviceLine) (done : List PlannedDevice)
    → IsPlannedTo known lists lines [] done → done ≡ map (planned_of known lists) lines
planned-all known lists lines done walk = sym (walk.all ∙ append-nil done)
