-- A walk step by step.
use Rattle.std.proofs.Common.{◌≡◌, ◌≢◌, ◌⊎◌, inl, inr, ⊎_elim, ℕ, ◌+◌, ◌<◌, ◌≤◌, Bool, true, false, not, List, [], ◌∷◌, ◌++◌, length, get_or, take, refl, sym, ap, ◌∙◌, subst, arith, append_assoc, append-nil, length-append}
use Rattle.std.specs.Prelude.{◌==◌, ◌||◌, if◌then◌else◌}
use Rattle.std.proofs.Math.Seq.{take-length}
use Rattle.std.proofs.lemmas.Bool.{eqb-true, eq-eqb, ne_eqb}
use Rattle.std.proofs.lemmas.List.{take-append-le}
use Rattle.std.proofs.lemmas.List.Folds.{list_any_at, list_any_more}
use Rattle.bus_plan.specs.Plan.{PlannedDevice, IsLawful}
use Rattle.bus_plan.specs.declared.reach.direction.Direction.{Direction}
use Rattle.bus_plan.specs.Reach.Reached.{is_in, next}
use Rattle.bus_plan.specs.Reach.Private.Walk.{class_of, with_device, with_devices, IsMet, IsUnderway, IsWalked}
use Rattle.bus_plan.proofs.ReachLemmas.InLemmas.{some_or, or_left, or_right, in_all, in_append, in_here}
use Rattle.bus_plan.proofs.ReachLemmas.TakesLemmas.{next_known, follows_itself, follows_next}

-- ---- devices that are entered
module _ (classes : List ℕ) (class : ℕ) where
  grown_one : (found : List ℕ) (d : ℕ) → (extra : List ℕ) × (with_device classes class found d ≡ found ++ extra)
  grown_one found d = by (is_in found d || not (class_of classes d == class)) where
    by : (t : Bool) → (extra : List ℕ) × ((if t then found else found ++ d ∷ []) ≡ found ++ extra)
    by true = ([], sym (append-nil found))
    by false = (d ∷ [], refl)

  pub grown : (ds found : List ℕ) → (extra : List ℕ) × (with_devices classes class found ds ≡ found ++ extra)
  grown [] found = ([], sym (append-nil found))
  grown (d ∷ ds) found =
      let first : (extra : List ℕ) × (with_device classes class found d ≡ found ++ extra) = grown_one found d in
      let rest : (extra : List ℕ) × (with_devices classes class (with_device classes class found d) ds ≡ with_device classes class found d ++ extra) = grown ds (with_device classes class found d) in
      (first.0 ++ rest.0, rest.1 ∙ ap (λ (f : List ℕ). f ++ rest.0) first.1 ∙ append_assoc found first.0 rest.0)

  pub grown_long : (ds found : List ℕ) → length found ≤ length (with_devices classes class found ds)
  grown_long ds found =
      let g : (extra : List ℕ) × (with_devices classes class found ds ≡ found ++ extra) = grown ds found in
      let long : length (with_devices classes class found ds) ≡ length found + length g.0 = ap length g.1 ∙ length-append found g.0 in
      omega arith

  pub kept : (ds found : List ℕ) (x : ℕ) → is_in found x ≡ true → is_in (with_devices classes class found ds) x ≡ true
  kept ds found x e =
      let g : (extra : List ℕ) × (with_devices classes class found ds ≡ found ++ extra) = grown ds found in
      ap (λ (l : List ℕ). is_in l x) g.1 ∙ in_append found g.0 x ∙ or_left (is_in found x) (is_in g.0 x) e

  pub entered_one : (found : List ℕ) (d : ℕ) → class_of classes d ≡ class → is_in (with_device classes class found d) d ≡ true
  entered_one found d same = by (is_in found d) (class_of classes d == class) refl (eq-eqb (class_of classes d) class same) where
    by : (a b : Bool) → is_in found d ≡ a → b ≡ true → is_in (if a || not b then found else found ++ d ∷ []) d ≡ true
    by true b is on = is
    by false true is on = in_here found d
    by false false is on = absurd (let bad : false ≡ true = on in cc bad)

  pub entered : (ds found : List ℕ) (n : ℕ) → is_in ds n ≡ true → class_of classes n ≡ class → is_in (with_devices classes class found ds) n ≡ true
  entered [] found n e same = absurd (let bad : false ≡ true = e in cc bad)
  entered (d ∷ ds) found n e same =
      ⊎_elim
      (λ is. kept ds (with_device classes class found d) n
      (subst (λ (x : ℕ). is_in (with_device classes class found x) n ≡ true) (sym (eqb-true d n is)) (entered_one found n same)))
      (λ later. entered ds (with_device classes class found d) n later same) (some_or (d == n) (is_in ds n) e)

  pub only_one : (P : ℕ → Type 0) (found : List ℕ) (d : ℕ) → ((x : ℕ) → is_in found x ≡ true → P x) → (class_of classes d ≡ class → P d)
      → (x : ℕ) → is_in (with_device classes class found d) x ≡ true → P x
  only_one P found d old new x e = by (is_in found d) (class_of classes d == class) refl e where
    last : (class_of classes d == class) ≡ true → (is_in found x ≡ true) ⊎ (is_in (d ∷ []) x ≡ true) → P x
    last on (inl before) = old x before
    last on (inr here) =
        ⊎_elim (λ is. subst P (eqb-true d x is) (new (eqb-true (class_of classes d) class on))) (λ none. absurd (let bad : false ≡ true = none in cc bad)) (some_or (d == x) false here)

    by : (a b : Bool) → (class_of classes d == class) ≡ b → is_in (if a || not b then found else found ++ d ∷ []) x ≡ true → P x
    by true b on h = old x h
    by false false on h = old x h
    by false true on h = last on (some_or (is_in found x) (is_in (d ∷ []) x) (sym (in_append found (d ∷ []) x) ∙ h))

  pub only : (P : ℕ → Type 0) (ds found : List ℕ) → ((x : ℕ) → is_in found x ≡ true → P x) → ((x : ℕ) → is_in ds x ≡ true → class_of classes x ≡ class → P x)
      → (x : ℕ) → is_in (with_devices classes class found ds) x ≡ true → P x
  only P [] found old new = old
  only P (d ∷ ds) found old new =
      only P ds (with_device classes class found d)
      (only_one P found d old (new d (or_left (d == d) (is_in ds d) (eq-eqb d d refl))))
      (λ x e. new x (or_right (d == x) (is_in ds x) e))

-- ---- what the code tests
pub with_known : (classes : List ℕ) (class : ℕ) (found : List ℕ) (d : ℕ) → is_in found d ≡ true → with_device classes class found d ≡ found
with_known classes class found d e = ap (λ (t : Bool). if t || not (class_of classes d == class) then found else found ++ d ∷ []) e

pub with_other : (classes : List ℕ) (class : ℕ) (found : List ℕ) (d : ℕ) → class_of classes d ≢ class → with_device classes class found d ≡ found
with_other classes class found d other =
    ap (λ (t : Bool). if is_in found d || not t then found else found ++ d ∷ []) (ne_eqb (class_of classes d) class other) ∙ by (is_in found d) where
      by : (a : Bool) → (if a || true then found else found ++ d ∷ []) ≡ found
      by true = refl
      by false = refl

pub with_new : (classes : List ℕ) (class : ℕ) (found : List ℕ) (d : ℕ) → is_in found d ≡ false → class_of classes d ≡ class → with_device classes class found d ≡ found ++ d ∷ []
with_new classes class found d e same =
    ap (λ (t : Bool). if t || not (class_of classes d == class) then found else found ++ d ∷ []) e
    ∙ ap (λ (t : Bool). if not t then found else found ++ d ∷ []) (eq-eqb (class_of classes d) class same)

-- ---- the walk
module _ (direction : Direction) (plan : List PlannedDevice) (classes : List ℕ) (root : ℕ) where
  pub underway_first : root < length plan → IsUnderway direction plan classes root (with_device classes (class_of classes root) [] root) 0
  underway_first known = record {
    began = entered_one classes (class_of classes root) [] root refl;
    each = only_one classes (class_of classes root) (IsMet direction plan classes root) [] root (λ x e. absurd (let bad : false ≡ true = e in cc bad)) (λ _. (known, refl, follows_itself direction plan root));
    closed = λ d e. absurd (let bad : false ≡ true = e in cc bad);
  }

  pub underway_on : IsLawful plan → (found : List ℕ) (at : ℕ) → at < length found → IsUnderway direction plan classes root found at
      → IsUnderway direction plan classes root (with_devices classes (class_of classes root) found (next direction plan (get_or found at 0))) (at + 1)
  underway_on lawful found at lt w = record {
    began = kept classes (class_of classes root) ns found root w.began;
    each =
        only classes (class_of classes root) (IsMet direction plan classes root) ns found w.each
        (λ x e same. (in_all (λ n. n < length plan) ns (next_known direction plan lawful d) x e, same, follows_next direction plan root d x (w.each d here).2 e));
    closed = λ x e.
        ⊎_elim (λ before n inside same. kept classes (class_of classes root) ns found n (w.closed x before n inside same))
        (λ is n inside same. entered classes (class_of classes root) ns found n (subst (λ (y : ℕ). is_in (next direction plan y) n ≡ true) (sym (eqb-true d x is)) inside) same)
        (some_or (is_in (take at found) x) (d == x) (sym (split x) ∙ e));
  }
    where
      d : ℕ
      d = get_or found at 0

      ns : List ℕ
      ns = next direction plan d

      here : is_in found d ≡ true
      here = list_any_at (λ e. e == d) found at 0 lt (eq-eqb d d refl)

      split : (x : ℕ) → is_in (take (at + 1) (with_devices classes (class_of classes root) found ns)) x ≡ (is_in (take at found) x || (d == x))
      split x =
          let g : (extra : List ℕ) × (with_devices classes (class_of classes root) found ns ≡ found ++ extra) = grown classes (class_of classes root) ns found in
          ap (λ (l : List ℕ). is_in (take (at + 1) l) x) g.1 ∙ ap (λ (l : List ℕ). is_in l x) (take-append-le (at + 1) found g.0 (omega arith))
          ∙ list_any_more (λ e. e == x) found at 0 lt

  pub met_known : (found : List ℕ) (at : ℕ) → at < length found → IsUnderway direction plan classes root found at → get_or found at 0 < length plan
  met_known found at lt w = (w.each (get_or found at 0) (list_any_at (λ e. e == get_or found at 0) found at 0 lt (eq-eqb (get_or found at 0) (get_or found at 0) refl))).0

  pub walked : (found : List ℕ) (at : ℕ) → at ≡ length found → IsUnderway direction plan classes root found at → IsWalked direction plan classes root found
  walked found at all w = record {
    began = w.began;
    each = w.each;
    closed = λ d e. w.closed d (ap (λ (n : ℕ). is_in (take n found) d) all ∙ ap (λ (l : List ℕ). is_in l d) (take-length found) ∙ e);
  }
