-- The report by the phases is the report of the state.
use Rattle.std.proofs.Common.{◌≡◌, ℕ, zero, suc, ◌+◌, Bool, true, false, List, [], ◌∷◌, ◌++◌, Some, cond, refl, sym, ap, ap₂, ◌∙◌, append-nil, append_assoc, arith}
use Rattle.std.specs.Prelude.{is_some, flat_map, find, IfSome, All}
use Rattle.std.specs.List.{range_with_len}
use Rattle.std.proofs.lemmas.List.Elements.{All-head, All-tail}
use Rattle.bus_plan.specs.Plan.{PlannedDevice, is_available, is_matched}
use Rattle.bus_core.specs.declared.phase.Phase.{Phase}
use Rattle.bus_core.specs.declared.phase.Phase.TheVariants.{Fresh, Begun, InFlight, Bound, Failed}
use Rattle.bus_core.specs.declared.settle.Settle.{Settle}
use Rattle.bus_core.specs.declared.status.Status.TheVariants as status
use Rattle.bus_core.specs.RefinementPhase.{phase_at, flight_in, settled_in, bound_now, due_by, idle_status, status_in, status_by, state_of}
use Rattle.bus_core.specs.Report.{status_of}
use Rattle.bus_core.specs.RefinementSound.{IsSound}
use Rattle.bus_core.proofs.SoundLemmas.{flight-phase, due-same}

-- one device's line more
pub flat_map-range_more : (f : ℕ → List ℕ) (n a : ℕ) → flat_map f (range_with_len a (suc n)) ≡ flat_map f (range_with_len a n) ++ f (a + n)
flat_map-range_more f zero a = append-nil (f a) ∙ ap f (omega arith)
flat_map-range_more f (suc n) a =
    ap (λ x. f a ++ x) (flat_map-range_more f n (a + 1) ∙ ap (λ k. flat_map f (range_with_len (a + 1) n) ++ f k) (omega arith))
    ∙ sym (append_assoc (f a) (flat_map f (range_with_len (a + 1) n)) (f (a + suc n)))

status-in : (phase : Phase) (available matched due : Bool)
    → status_in phase available matched due ≡ cond (bound_now phase) status.Bound (cond (settled_in phase) status.Failed (cond (is_some (flight_in phase)) status.Probing (idle_status available matched due)))
status-in Fresh available matched due = refl
status-in Begun available matched due = refl
status-in (InFlight attempt settled) available matched due = refl
status-in (Bound place) available matched due = refl
status-in Failed available matched due = refl

pub status-same : (plan : List PlannedDevice) (phases : List Phase) (h : List Settle) (n : ℕ) → IsSound plan phases h n → (d : ℕ) → status_by plan phases d ≡ status_of plan (state_of phases h n) d
status-same plan phases h n sound d =
    status-in (phase_at phases d) (is_available plan d) (is_matched plan d) (due_by plan phases d)
    ∙ (λ i. cond (sym (sound.bound d) i) status.Bound (cond (sym (sound.settled d) i) status.Failed
    (cond (is_some (sym (flight-phase phases h n d) i)) status.Probing (idle_status (is_available plan d) (is_matched plan d) (due-same plan phases h n sound d i)))))

-- what is found has what all have
pub find-all : (p : ℕ → Bool) (P : ℕ → Type 0) (xs : List ℕ) → All P xs → IfSome (find p xs) P
find-all p P [] all = tt
find-all p P (x ∷ xs) all = found (p x) (All-head P x xs all) (find-all p P xs (All-tail P x xs all))
  where
    found : (b : Bool) → P x → IfSome (find p xs) P → IfSome (cond b (Some x) (find p xs)) P
    found true here later = here
    found false here later = later

pub flat_map-devices_more : (f : ℕ → List ℕ) (i : ℕ) → flat_map f (range_with_len 0 (i + 1)) ≡ flat_map f (range_with_len 0 i) ++ f i
flat_map-devices_more f i =
    let one : i + 1 ≡ suc i = omega arith
    in let none : 0 + i ≡ i = omega arith
    in ap (λ k. flat_map f (range_with_len 0 k)) one ∙ flat_map-range_more f i 0 ∙ ap (λ k. flat_map f (range_with_len 0 i) ++ f k) none

-- a loop's step: the text gets the line of the next device
pub lines_more : (f : ℕ → List ℕ) (i d : ℕ) (text new : List ℕ) → d ≡ i → text ≡ flat_map f (range_with_len 0 i) → new ≡ text ++ f d → new ≡ flat_map f (range_with_len 0 (i + 1))
lines_more f i d text new same before added =
    added ∙ ap₂ (λ x y. x ++ y) before (ap f same) ∙ sym (flat_map-devices_more f i)
