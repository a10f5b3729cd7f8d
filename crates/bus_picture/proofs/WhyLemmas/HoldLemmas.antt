-- A device is ready exactly where absent supplier is missing.
use Rattle.std.proofs.Common.{◌≡◌, ℕ, ◌+◌, ◌<◌, Bool, true, false, not, ◌&&◌, List, [], ◌∷◌, Option, Some, None, length, cond, refl, sym, ap, ◌∙◌, arith}
use Rattle.std.specs.Prelude.{find, is_none}
use Rattle.std.specs.List.{list_all}
use Rattle.bus_plan.specs.Plan.{PlannedDevice, suppliers_of, is_matched, is_available}
use Rattle.bus_core.specs.declared.status.Status.{Status}
use Rattle.bus_core.specs.declared.status.Status.TheVariants as status
use Rattle.bus_core.specs.Report.{end_status, missing_supplier}
use Rattle.bus_core.specs.Ready.{is_ready}
use Rattle.bus_picture.specs.Why.Chain.{IsEnd, ClosesCycle, waits, is_waiting}
use Rattle.bus_picture.specs.declared.why.hold.Cause.{Cause}
use Rattle.bus_picture.specs.declared.why.hold.Cause.TheVariants as cause

pub none_missing : (bound : ℕ → Bool) (xs : List ℕ) → is_none (find (λ s. not (bound s)) xs) ≡ list_all bound xs
none_missing bound [] = refl
none_missing bound (x ∷ xs) = at (bound x) (none_missing bound xs)
  where
    at : (b : Bool) → is_none (find (λ s. not (bound s)) xs) ≡ list_all bound xs → is_none (cond (not b) (Some x) (find (λ s. not (bound s)) xs)) ≡ (b && list_all bound xs)
    at true rest = rest
    at false rest = refl

module _ (plan : List PlannedDevice) (bound : ℕ → Bool) (d : ℕ) where
  pub is_disabled : is_available plan d ≡ false → end_status plan bound d ≡ status.Disabled
  is_disabled absent = ap (λ a. cond (not a) status.Disabled (cond (not (is_matched plan d)) status.Unmatched (cond (bound d) status.Bound (cond (is_ready plan bound d) status.Failed status.Waiting)))) absent

  pub is_unmatched : is_available plan d ≡ true → is_matched plan d ≡ false → end_status plan bound d ≡ status.Unmatched
  is_unmatched there absent =
      ap (λ a. cond (not a) status.Disabled (cond (not (is_matched plan d)) status.Unmatched (cond (bound d) status.Bound (cond (is_ready plan bound d) status.Failed status.Waiting)))) there
      ∙ ap (λ m. cond (not m) status.Unmatched (cond (bound d) status.Bound (cond (is_ready plan bound d) status.Failed status.Waiting))) absent

  by_bound : is_available plan d ≡ true → is_matched plan d ≡ true → end_status plan bound d ≡ cond (bound d) status.Bound (cond (is_ready plan bound d) status.Failed status.Waiting)
  by_bound there matched =
      ap (λ a. cond (not a) status.Disabled (cond (not (is_matched plan d)) status.Unmatched (cond (bound d) status.Bound (cond (is_ready plan bound d) status.Failed status.Waiting)))) there
      ∙ ap (λ m. cond (not m) status.Unmatched (cond (bound d) status.Bound (cond (is_ready plan bound d) status.Failed status.Waiting))) matched

  pub is_bound : is_available plan d ≡ true → is_matched plan d ≡ true → bound d ≡ true → end_status plan bound d ≡ status.Bound
  is_bound there matched was = by_bound there matched ∙ ap (λ b. cond b status.Bound (cond (is_ready plan bound d) status.Failed status.Waiting)) was

  ready : (r : Bool) → is_matched plan d ≡ true → list_all bound (suppliers_of plan d) ≡ r → is_ready plan bound d ≡ r
  ready r matched all = ap (λ m. m && list_all bound (suppliers_of plan d)) matched ∙ all

  by_missing : (o : Option ℕ) → is_available plan d ≡ true → is_matched plan d ≡ true → bound d ≡ false → missing_supplier plan bound d ≡ o
      → end_status plan bound d ≡ cond (is_none o) status.Failed status.Waiting
  by_missing o there matched not_bound missing =
      by_bound there matched ∙ ap (λ b. cond b status.Bound (cond (is_ready plan bound d) status.Failed status.Waiting)) not_bound
      ∙ ap (λ r. cond r status.Failed status.Waiting) (ready (is_none o) matched (sym (none_missing bound (suppliers_of plan d)) ∙ ap (λ m. is_none m) missing))

  pub has_failed : is_available plan d ≡ true → is_matched plan d ≡ true → bound d ≡ false → missing_supplier plan bound d ≡ None → end_status plan bound d ≡ status.Failed
  has_failed = by_missing None

  pub is_kept : (s : ℕ) → is_available plan d ≡ true → is_matched plan d ≡ true → bound d ≡ false → missing_supplier plan bound d ≡ Some s → end_status plan bound d ≡ status.Waiting
  is_kept s = by_missing (Some s)

  -- a device that is something doesn't wait
  pub ends_waits : (why : Cause) → IsEnd plan bound d why → ClosesCycle [] why → waits plan bound d ≡ false
  ends_waits cause.Bound is closes = ap is_waiting is
  ends_waits cause.Failed is closes = ap is_waiting is
  ends_waits cause.Unmatched is closes = ap is_waiting is
  ends_waits cause.Disabled is closes = ap is_waiting is
  ends_waits (cause.Cycle place) is closes = absurd (omega (arith, closes.0))

pub closes_more : (chain : List ℕ) (why : Cause) → ClosesCycle [] why → ClosesCycle chain why
closes_more chain cause.Bound closes = tt
closes_more chain cause.Failed closes = tt
closes_more chain cause.Unmatched closes = tt
closes_more chain cause.Disabled closes = tt
closes_more chain (cause.Cycle place) closes = absurd (omega (arith, closes.0))
