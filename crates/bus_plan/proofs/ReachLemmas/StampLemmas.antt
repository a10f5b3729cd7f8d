-- Stamps of the devices that a walk found.
use Rattle.std.proofs.Common.{◌≡◌, ◌≢◌, ◌⊎◌, inl, inr, ⊎_elim, ℕ, zero, suc, ◌+◌, ◌<◌, ◌≤◌, Bool, true, false, not, cond, List, [], ◌∷◌, ◌++◌, length, get_or, set, replicate, refl, sym, ap, ◌∙◌, arith, length-set, length-append}
use Rattle.std.specs.Prelude.{◌==◌, ◌||◌}
use Rattle.std.proofs.lemmas.Bool.{eq-eqb, ne_eqb, cases_eq}
use Rattle.std.proofs.lemmas.List.{get_or-set_same, get_or-set_other}
use Rattle.std.proofs.lemmas.List.Sums.{sum_by-set}
use Rattle.bus_plan.specs.Plan.{PlannedDevice}
use Rattle.bus_plan.specs.Reach.Reached.{is_in}
use Rattle.bus_plan.specs.Reach.Private.Walk.{AreStamped, OnlyStamps, unstamped}
use Rattle.bus_plan.specs.Reach.Private.Given.{AreStampsTo}
use Rattle.bus_plan.proofs.ReachLemmas.InLemmas.{in_append, in_here}

pub stamped_more : (stamp : ℕ) (stamps found : List ℕ) (d : ℕ) → d < length stamps → AreStamped stamp stamps found → AreStamped stamp (set stamps d stamp) (found ++ d ∷ [])
stamped_more stamp stamps found d within are x known =
    let long : length (set stamps d stamp) ≡ length stamps = length-set stamps d stamp in
    by (omega arith) (cases_eq x d) where
      or_none : (b : Bool) → b ≡ (b || false)
      or_none true = refl
      or_none false = refl

      by : x < length stamps → (x ≡ d) ⊎ (x ≡ d → ⊥) → (get_or (set stamps d stamp) x 0 == stamp) ≡ is_in (found ++ d ∷ []) x
      by here (inl same) =
          ap (λ (y : ℕ). get_or (set stamps d stamp) y 0 == stamp) same ∙ ap (λ (s : ℕ). s == stamp) (get_or-set_same stamps d stamp 0 within) ∙ eq-eqb stamp stamp refl
          ∙ sym (ap (λ (y : ℕ). is_in (found ++ d ∷ []) y) same ∙ in_here found d)
      by here (inr other) =
          ap (λ (s : ℕ). s == stamp) (get_or-set_other stamps d x stamp 0 other) ∙ are x here ∙ or_none (is_in found x)
          ∙ sym (in_append found (d ∷ []) x ∙ ap (λ (t : Bool). is_in found x || (t || false)) (ne_eqb d x (λ is. other (sym is))))

pub only_same : (stamp : ℕ) (stamps : List ℕ) → OnlyStamps stamp stamps stamps
only_same stamp stamps d = inr refl

pub only_set : (stamp : ℕ) (stamps : List ℕ) (d : ℕ) → d < length stamps → OnlyStamps stamp stamps (set stamps d stamp)
only_set stamp stamps d within x = by (cases_eq x d) where
  by : (x ≡ d) ⊎ (x ≡ d → ⊥) → (get_or (set stamps d stamp) x 0 ≡ stamp) ⊎ (get_or (set stamps d stamp) x 0 ≡ get_or stamps x 0)
  by (inl same) = inl (ap (λ (y : ℕ). get_or (set stamps d stamp) y 0) same ∙ get_or-set_same stamps d stamp 0 within)
  by (inr other) = inr (get_or-set_other stamps d x stamp 0 other)

pub only_on : (stamp : ℕ) (a b c : List ℕ) → OnlyStamps stamp a b → OnlyStamps stamp b c → OnlyStamps stamp a c
only_on stamp a b c first then d = ⊎_elim (λ new. inl new) (λ kept. ⊎_elim (λ new. inl (kept ∙ new)) (λ old. inr (kept ∙ old)) (first d)) (then d)

pub fewer_unstamped : (stamp : ℕ) (stamps found : List ℕ) (d : ℕ) → d < length stamps → get_or stamps d 0 ≢ stamp
    → unstamped stamp (set stamps d stamp) + length (found ++ d ∷ []) ≡ unstamped stamp stamps + length found
fewer_unstamped stamp stamps found d within other =
    let bit : Bool → ℕ = λ (b : Bool). cond b 1 0 in
    let lacks : ℕ → ℕ = λ (s : ℕ). cond (not (s == stamp)) 1 0 in
    let changed : unstamped stamp (set stamps d stamp) + lacks (get_or stamps d 0) ≡ unstamped stamp stamps + lacks stamp = sum_by-set lacks stamps d stamp 0 within in
    let was : lacks (get_or stamps d 0) ≡ 1 = ap (λ (t : Bool). cond (not t) 1 0) (ne_eqb (get_or stamps d 0) stamp other) in
    let is : lacks stamp ≡ 0 = ap (λ (t : Bool). cond (not t) 1 0) (eq-eqb stamp stamp refl) in
    let long : length (found ++ d ∷ []) ≡ length found + 1 = length-append found (d ∷ []) in
    omega arith

-- ---- before a walk
pub unstamped_to : (most : ℕ) (plan : List PlannedDevice) (stamps : List ℕ) → AreStampsTo most plan stamps → AreStamped (most + 1) stamps []
unstamped_to most plan stamps are d within =
    let low : get_or stamps d 0 ≤ most = are.low d in
    ne_eqb (get_or stamps d 0) (most + 1) (λ is. absurd (omega arith))

pub stamps_to : (most : ℕ) (plan : List PlannedDevice) (old new : List ℕ) → AreStampsTo most plan old → length new ≡ length old → OnlyStamps (most + 1) old new → AreStampsTo (most + 1) plan new
stamps_to most plan old new are long only = record {
  long = long ∙ are.long;
  low = λ d. let low : get_or old d 0 ≤ most = are.low d in ⊎_elim (λ is. omega (arith, is)) (λ is. omega (arith, is, low)) (only d);
}

pub zero_at : (n d : ℕ) → let none : ℕ = 0 in get_or (replicate n none) d 0 ≡ 0
zero_at zero d = refl
zero_at (suc n) zero = refl
zero_at (suc n) (suc d) = zero_at n d
