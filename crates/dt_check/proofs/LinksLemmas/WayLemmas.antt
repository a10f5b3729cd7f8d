-- One step on the way to the parent of interrupts.
use Rattle.std.proofs.Common.{◌≡◌, refl, ℕ, zero, suc, ◌-◌, ◌<◌, List, Ok, Err, arith}
use Rattle.dt_check.specs.Nodes.{PlacedData}
use Rattle.dt_check.specs.declared.links.interrupts.Way.{Way}
use Rattle.dt_check.specs.Links.Interrupts.{next, search_from}

pub way-on : (nodes : List PlacedData) (own left at above : ℕ) → 0 < left → next nodes own at ≡ Ok above
    → search_from nodes own (left - 1) above ≡ search_from nodes own left at
way-on nodes own zero at above h e = absurd (omega arith)
way-on nodes own (suc k) at above h e = let one : suc k - 1 ≡ k = omega arith in rw one (rw e refl)

pub way-end : (nodes : List PlacedData) (own left at : ℕ) (found : Way) → 0 < left → next nodes own at ≡ Err found
    → search_from nodes own left at ≡ found
way-end nodes own zero at found h e = absurd (omega arith)
way-end nodes own (suc k) at found h e = rw e refl
