-- Lemmas on tests over lists, and on tables.
use Rattle.std.proofs.Common.{◌≡◌, ◌≢◌, ◌⊎◌, inl, inr, ◌<◌, ◌≤◌, ◌+◌, zero, suc, ℕ, Bool, true, false, ◌||◌, List, [], ◌∷◌, ◌++◌, Option, None, length, set, get_or, refl, sym, ap, ap₂, ◌∙◌, subst, true≢false, arith}
use Rattle.std.specs.List.{list_any, list_all, range_with_len, flat_map}
use Rattle.std.specs.Prelude.{is_some}
use Rattle.std.proofs.lemmas.Bool.{and_parts, and_from, cases_lt, cases_eq}
use Rattle.std.proofs.lemmas.List.{get_or-set_same, get_or-set_other, get_or_past, set_past}
use Rattle.std.proofs.lemmas.List.Folds.{list_any-append}

pub or_false : (b : Bool) → (b || false) ≡ b
or_false true = refl
or_false false = refl

pub list_any_push : {X : Type 0} (p : X → Bool) (xs : List X) (x : X) → list_any p (xs ++ x ∷ []) ≡ (list_any p xs || p x)
list_any_push p xs x = list_any-append p xs (x ∷ []) ∙ ap (λ b. list_any p xs || b) (or_false (p x))

-- a weaker test passes too
pub list_all_weaker : {X : Type 0} (p q : X → Bool) → ((x : X) → p x ≡ true → q x ≡ true) → (xs : List X) → list_all p xs ≡ true → list_all q xs ≡ true
list_all_weaker p q weaker [] passes = refl
list_all_weaker p q weaker (x ∷ xs) passes =
    let parts = and_parts (p x) (list_all p xs) passes
    in and_from (q x) (list_all q xs) (weaker x parts.0) (list_all_weaker p q weaker xs parts.1)

-- what passes at each number of a range passes at one
pub list_all_in_range : (p : ℕ → Bool) (n a d : ℕ) → list_all p (range_with_len a n) ≡ true → a ≤ d → d < a + n → p d ≡ true
list_all_in_range p zero a d passes above below = absurd (omega arith)
list_all_in_range p (suc n) a d passes above below =
    let parts = and_parts (p a) (list_all p (range_with_len (a + 1) n)) passes
    in elim (cases_eq a d) [
      | inl same ↦ subst (λ k. p k ≡ true) same parts.0
      | inr other ↦ list_all_in_range p n (a + 1) d parts.1 (omega arith) (omega arith)
    ]

pub flat_map_same : (f g : ℕ → List ℕ) (n a : ℕ) → ((d : ℕ) → a ≤ d → d < a + n → f d ≡ g d) → flat_map f (range_with_len a n) ≡ flat_map g (range_with_len a n)
flat_map_same f g zero a same = refl
flat_map_same f g (suc n) a same =
    ap₂ (λ x y. x ++ y) (same a (omega arith) (omega arith)) (flat_map_same f g n (a + 1) (λ d above below. same d (omega arith) (omega arith)))

-- the table after a place is emptied
pub emptied-get : {X : Type 0} (table : List (Option X)) (i : ℕ) → get_or (set table i None) i None ≡ None
emptied-get table i = elim (cases_lt i (length table)) [
  | inl within ↦ get_or-set_same table i None None within
  | inr past ↦ ap (λ t. get_or t i None) (set_past table i None past) ∙ get_or_past table i None past
]

-- a place that is filled after another was emptied
pub filled-emptied : {X : Type 0} (table : List (Option X)) (i j : ℕ) → is_some (get_or (set table i None) j None) ≡ true → (i ≢ j) × (is_some (get_or table j None) ≡ true)
filled-emptied table i j filled = elim (cases_eq j i) [
  | inl same ↦ absurd (true≢false (sym filled ∙ ap is_some (ap (λ k. get_or (set table i None) k None) same ∙ emptied-get table i)))
  | inr other ↦ (λ e. other (sym e), sym (ap is_some (get_or-set_other table i j None None other)) ∙ filled)
]

-- a place that is filled after one was filled
pub filled-filled : {X : Type 0} (table : List (Option X)) (i j : ℕ) (x : Option X) → is_some (get_or (set table i x) j None) ≡ true → (j ≡ i) ⊎ (is_some (get_or table j None) ≡ true)
filled-filled table i j x filled = elim (cases_eq j i) [
  | inl same ↦ inl same
  | inr other ↦ inr (sym (ap is_some (get_or-set_other table i j x None other)) ∙ filled)
]
