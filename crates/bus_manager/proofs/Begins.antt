-- The begins of all devices, added up.
use Rattle.std.proofs.Common.{◌≡◌, inl, inr, ℕ, zero, suc, ◌+◌, ◌*◌, ◌<◌, ◌≤◌, Bool, true, false, List, [], ◌∷◌, ◌++◌, length, eqb, cond, refl, sym, ap, ap₂, ◌∙◌, eq-eqb, ne_eqb, arith}
use Rattle.std.specs.Prelude.{count_by, All}
use Rattle.std.proofs.lemmas.Bool.{cases_eq}
use Rattle.std.proofs.lemmas.List.Sums.{sum_by-append, sum_by-cons}
use Rattle.std.proofs.lemmas.List.Elements.{All-head, All-tail}
use Rattle.bus_plan.specs.Plan.{PlannedDevice}
use Rattle.bus_core.specs.declared.event.Event.{Event}
use Rattle.bus_core.specs.declared.event.Event.TheVariants.{Begin, Finish, Abandon, Register}
use Rattle.bus_core.specs.Replay.{IsEventOf}
use Rattle.bus_manager.specs.Events.{is_begin, is_begin_of, is_abandon_of}
use Rattle.bus_manager.specs.Private.Counts.{is_abandon}
use Rattle.bus_manager.specs.Keeper.{KeeperValue, IsKept}

-- what a test counts
pub no-count : (b : Bool) → b ≡ false → cond {A = ℕ} b 1 0 ≡ 0
no-count b e = ap (λ x. cond x 1 0) e

pub one-count : (b : Bool) → b ≡ true → cond {A = ℕ} b 1 0 ≡ 1
one-count b e = ap (λ x. cond x 1 0) e

pub count-push : {X : Type 0} (p : X → Bool) (xs : List X) (x : X) → count_by p (xs ++ x ∷ []) ≡ count_by p xs + cond (p x) 1 0
count-push p xs x = sum_by-append (λ y. cond (p y) 1 0) xs (x ∷ []) ∙ ap (λ n. count_by p xs + n) (omega arith)

-- f at each number below n, added up
abbrev below : (ℕ → ℕ) → ℕ → ℕ
below f zero = 0
below f (suc n) = below f n + f n

below-same : (f g : ℕ → ℕ) → ((d : ℕ) → f d ≡ g d) → (n : ℕ) → below f n ≡ below g n
below-same f g same zero = refl
below-same f g same (suc n) = ap₂ (λ a b. a + b) (below-same f g same n) (same n)

below-add : (f g : ℕ → ℕ) (n : ℕ) → below (λ d. f d + g d) n ≡ below f n + below g n
below-add f g zero = omega arith
below-add f g (suc n) = let e = below-add f g n in omega arith

below-le : (f g : ℕ → ℕ) → ((d : ℕ) → f d ≤ 2 + g d) → (n : ℕ) → below f n ≤ 2 * n + below g n
below-le f g le zero = omega arith
below-le f g le (suc n) = let e = below-le f g le n in let h = le n in omega arith

below-none : (e n : ℕ) → n ≤ e → below (λ d. cond (eqb e d) 1 0) n ≡ 0
below-none e zero past = refl
below-none e (suc n) past =
    let rest = below-none e n (omega arith)
    in let here = no-count (eqb e n) (ne_eqb e n (λ q. absurd (omega arith)))
    in omega arith

below-one : (e n : ℕ) → e < n → below (λ d. cond (eqb e d) 1 0) n ≡ 1
below-one e zero within = absurd (omega arith)
below-one e (suc n) within = elim (cases_eq e n) [
  | inl same ↦
      let rest = below-none e n (omega arith)
      in let here = one-count (eqb e n) (eq-eqb e n same)
      in omega arith
  | inr other ↦
      let rest = below-one e n (omega arith)
      in let here = no-count (eqb e n) (ne_eqb e n other)
      in omega arith
]

below-zero : (n : ℕ) → below (λ d. 0) n ≡ 0
below-zero zero = refl
below-zero (suc n) = let e = below-zero n in omega arith

-- a test of events by their device, counted for all devices
counted-all : (plan : List PlannedDevice) (p : ℕ → Event → Bool) (q : Event → Bool) (n : ℕ)
    → ((x : Event) → IsEventOf plan x → below (λ d. cond (p d x) 1 0) n ≡ cond (q x) 1 0)
    → (events : List Event) → All (IsEventOf plan) events → below (λ d. count_by (p d) events) n ≡ count_by q events
counted-all plan p q n one [] within = below-zero n
counted-all plan p q n one (x ∷ events) within =
    below-same (λ d. count_by (p d) (x ∷ events)) (λ d. cond (p d x) 1 0 + count_by (p d) events) (λ d. sum_by-cons (λ y. cond (p d y) 1 0) x events) n
    ∙ below-add (λ d. cond (p d x) 1 0) (λ d. count_by (p d) events) n
    ∙ ap₂ (λ a b. a + b) (one x (All-head (IsEventOf plan) x events within)) (counted-all plan p q n one events (All-tail (IsEventOf plan) x events within))
    ∙ sym (sum_by-cons (λ y. cond (q y) 1 0) x events)

one-begin : (plan : List PlannedDevice) (x : Event) → IsEventOf plan x → below (λ d. cond (is_begin_of d x) 1 0) (length plan) ≡ cond (is_begin x) 1 0
one-begin plan (Begin d) within = below-one d (length plan) within
one-begin plan (Finish d report) within = below-zero (length plan)
one-begin plan (Abandon d) within = below-zero (length plan)
one-begin plan (Register name strings) within = below-zero (length plan)

one-abandon : (plan : List PlannedDevice) (x : Event) → IsEventOf plan x → below (λ d. cond (is_abandon_of d x) 1 0) (length plan) ≡ cond (is_abandon x) 1 0
one-abandon plan (Begin d) within = below-zero (length plan)
one-abandon plan (Finish d report) within = below-zero (length plan)
one-abandon plan (Abandon d) within = below-one d (length plan) within
one-abandon plan (Register name strings) within = below-zero (length plan)

-- a keeper's begins: at most two a device, and one more for each abandon
pub few-begins : (k : KeeperValue) → IsKept k → k.state.begins ≤ 2 * length k.plan + count_by is_abandon k.events
few-begins k kept =
    let begins = counted-all kept.first is_begin_of is_begin (length kept.first) (one-begin kept.first) k.events kept.within
    in let abandons = counted-all kept.first is_abandon_of is_abandon (length kept.first) (one-abandon kept.first) k.events kept.within
    in let le = below-le (λ d. count_by (is_begin_of d) k.events) (λ d. count_by (is_abandon_of d) k.events) kept.begins (length kept.first)
    in omega (arith, begins, abandons, le, kept.counted, kept.long)
