-- Flights end, and none is left.
use Rattle.std.proofs.Common.{◌≡◌, ◌≢◌, inl, inr, ℕ, zero, suc, ◌+◌, ◌<◌, ◌≤◌, Bool, true, false, not, ◌||◌, List, [], ◌∷◌, ◌++◌, Option, Some, None, length, cond, set, get_or, refl, ap, ◌∙◌, arith, ltb-false}
use Rattle.std.specs.Prelude.{is_some, count_by, nat_lt}
use Rattle.std.specs.List.{list_all, range_with_len}
use Rattle.std.proofs.lemmas.Bool.{and_from, or_from, not_from_false, cases_eq, cases_lt, false_from_ne_true}
use Rattle.std.proofs.lemmas.List.{get_or-set_other, get_or_past}
use Rattle.bus_plan.specs.declared.limits.TheConstants.{MAX_DEVICES}
use Rattle.bus_plan.specs.Plan.{PlannedDevice}
use Rattle.bus_core.specs.declared.event.Event.TheVariants.{Begin, Finish, Abandon}
use Rattle.bus_core.specs.declared.event.Report.{Report}
use Rattle.bus_core.specs.declared.event.Report.TheVariants.{Settled, Missing}
use Rattle.bus_core.specs.declared.event.Ticket.{Ticket}
use Rattle.bus_core.specs.declared.refusal.Refusal.{Refusal}
use Rattle.bus_core.specs.declared.refusal.Refusal.TheVariants.{NotInFlight}
use Rattle.bus_core.specs.CoreState.{CoreState, Flight, is_in_flight}
use Rattle.bus_core.specs.Due.{is_due, is_quiet}
use Rattle.bus_core.specs.Step.{begin_state, finish_state, abandon_refusal}
use Rattle.bus_core.proofs.Lists.{emptied-get}
use Rattle.bus_manager.specs.Private.Alone.{IsLanded, IsDropped, IsDriven}
use Rattle.bus_manager.specs.Private.Counts.{is_abandon, open_flights, abandons}
use Rattle.bus_manager.specs.Keeper.{KeeperValue, IsKept, IsTaken, begun_keeper, finished_keeper, abandoned_keeper}
use Rattle.bus_manager.proofs.Begins.{count-push, one-count, few-begins}
use Rattle.bus_manager.proofs.Steps.{flights-set}

all-in-range : (p : ℕ → Bool) (n a : ℕ) → ((d : ℕ) → a ≤ d → d < a + n → p d ≡ true) → list_all p (range_with_len a n) ≡ true
all-in-range p zero a passes = refl
all-in-range p (suc n) a passes =
    and_from (p a) (list_all p (range_with_len (a + 1) n)) (passes a (omega arith) (omega arith))
    (all-in-range p n (a + 1) (λ d above below. passes d (omega arith) (omega arith)))

pub landed-quiet : (k : KeeperValue) → IsLanded k → ((d : ℕ) → is_due k.plan k.state d ≡ false) → is_quiet k.plan k.state ≡ true
landed-quiet k landed undue =
    all-in-range (λ d. not (is_in_flight k.state d || is_due k.plan k.state d)) (length k.plan) 0
    (λ d above below. not_from_false (is_in_flight k.state d || is_due k.plan k.state d) (or_from (is_in_flight k.state d) (is_due k.plan k.state d) (landed d (omega arith)) (undue d)))

-- where no flight is counted, none is open
none-flying : (flights : List (Option Flight)) (d : ℕ) → count_by is_some flights ≡ 0 → is_some (get_or flights d None) ≡ false
none-flying flights d none = elim (cases_lt d (length flights)) [
  | inl within ↦ false_from_ne_true (is_some (get_or flights d None)) (λ flying.
      let e = flights-set flights d None within
      in let one = one-count (is_some (get_or flights d None)) flying
      in absurd (omega (arith, e, one, none)))
  | inr past ↦ ap is_some (get_or_past flights d None past)
]

-- where nothing is due and no flight is open, all is quiet
pub unflown-quiet : (k : KeeperValue) → nat_lt 0 (open_flights k.state) ≡ false → ((d : ℕ) → is_due k.plan k.state d ≡ false) → is_quiet k.plan k.state ≡ true
unflown-quiet k none undue =
    let no = ltb-false 0 (open_flights k.state) none
    in landed-quiet k (λ d within. none-flying k.state.flights d (omega (arith, no))) undue

-- the flights after one has ended
pub emptied : (flights : List (Option Flight)) (d e : ℕ) → (e ≢ d → is_some (get_or flights e None) ≡ false) → is_some (get_or (set flights d None) e None) ≡ false
emptied flights d e others = elim (cases_eq e d) [
  | inl same ↦ ap (λ k. is_some (get_or (set flights d None) k None)) same ∙ ap is_some (emptied-get flights d)
  | inr other ↦ ap is_some (get_or-set_other flights d e None None other) ∙ others other
]

finish-lands : (plan : List PlannedDevice) (s : CoreState) (d e : ℕ) (report : Report) → (e ≢ d → is_in_flight s e ≡ false) → is_in_flight (finish_state plan s d report) e ≡ false
finish-lands plan s d e Settled others = emptied s.flights d e others
finish-lands plan s d e (Missing supplier) others = emptied s.flights d e others

finish-begins : (plan : List PlannedDevice) (s : CoreState) (d : ℕ) (report : Report) → (finish_state plan s d report).begins ≡ s.begins
finish-begins plan s d Settled = refl
finish-begins plan s d (Missing supplier) = refl

driven-by : (old : KeeperValue) (d : ℕ) (report : Report) → IsKept old → length old.plan ≤ MAX_DEVICES → abandons old ≤ length old.plan → IsLanded old
    → IsDriven old (finished_keeper (begun_keeper old d) d report)
driven-by old d report kept small few landed =
    let one = count-push is_abandon old.events (Begin d)
    in let two = count-push is_abandon (old.events ++ Begin d ∷ []) (Finish d report)
    in let begins = finish-begins old.plan (begin_state old.state d) d report
    in record {
      plan = refl;
      landed = λ e within. finish-lands old.plan (begin_state old.state d) d e report
          (λ other. ap is_some (get_or-set_other old.state.flights d e (Some (record { attempt = old.state.begins + 1; settled = length old.state.history })) None other) ∙ landed e within);
      few = omega (arith, one, two);
      begins = begins;
      limit = omega (arith, begins, few-begins old kept);
    }

pub driven : (old mid new : KeeperValue) (ticket : Ticket) (seen : List ℕ) (report : Report) → IsKept old → length old.plan ≤ MAX_DEVICES → abandons old ≤ length old.plan → IsLanded old
    → IsTaken old mid ticket seen → new ≡ finished_keeper mid ticket.device report → IsDriven old new
driven old mid new ticket seen report kept small few landed taken finished =
    coe 1 0 (i. IsDriven old ((finished ∙ ap (λ k. finished_keeper k ticket.device report) taken.begun) i)) (driven-by old ticket.device report kept small few landed)

-- an abandon
pub dropped : (old new : KeeperValue) (d : ℕ) → new ≡ abandoned_keeper old d → IsDropped old new d
dropped old new d is =
    let one = count-push is_abandon old.events (Abandon d)
    in coe 1 0 (i. IsDropped old (is i) d) (record {
      plan = refl;
      here = ap is_some (emptied-get old.state.flights d);
      others = λ e landed. emptied old.state.flights d e (λ _. landed);
      few = omega (arith, one);
    })

pub not-flying : (flying : Bool) (r : Refusal) → Some r ≡ cond (not flying) (Some NotInFlight) None → flying ≡ false
not-flying false r e = refl
not-flying true r e = let no : ⊥ = cc in absurd no

-- an abandon that was refused
pub undropped : (old new : KeeperValue) (d : ℕ) (r : Refusal) → Some r ≡ abandon_refusal old.state d → new ≡ old → IsDropped old new d
undropped old new d r refused same =
    coe 1 0 (i. IsDropped old (same i) d) (record {
      plan = refl;
      here = not-flying (is_in_flight old.state d) r refused;
      others = λ e landed. landed;
      few = omega arith;
    })
