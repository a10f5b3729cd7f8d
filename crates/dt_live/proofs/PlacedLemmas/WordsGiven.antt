-- A label that is given, or that a node has.
use Rattle.std.proofs.Common.{◌≡◌, ℕ, ◌+◌, ◌<◌, Bool, true, false, ◌||◌, List, [], ◌∷◌, ◌++◌, drop, length, map, take, Option, Some, None, Result, Ok, Err, if◌then◌else◌, refl, sym, ap, ◌∙◌, true≢false}
use Rattle.std.specs.Prelude.{slice_index_or}
use Rattle.std.proofs.lemmas.List.{drop_more, map-append, take-append-drop}
use Rattle.dt_live.specs.declared.placed.placed_tree.PlacedTree.{PlacedTree}
use Rattle.dt_live.specs.Placed.Standing.{label_of}
use Rattle.std.specs.Str.{bytes_eq}
use Rattle.std.specs.List.{list_any}
use Rattle.dt_source.specs.TreeMeaning.Paths.{Path}
use Rattle.dt_source.specs.TreeMeaning.Edits.{Label, State, label_path, labelled_at, with_label}
use Rattle.dt_source.specs.TreeMeaning.Statements.{Fault, give_label}
use Rattle.dt_source.specs.TreeMeaning.DtcStatements.{label_twice, same_label}
use Rattle.dt_tree.proofs.SeenNames.{bytes_eq-comm}
use Rattle.dt_live.proofs.NodeRows.{absent-present}

abbrev state_in : {V : Type 0} → State V → Result (State V) Fault → State V
state_in s (Ok x) = x
state_in s (Err e) = s

pub given-new : {V : Type 0} (l : List ℕ) (p : Path) (o : Option Path) (s t : State V) → o ≡ None → give_label l p o s ≡ Ok t → t ≡ with_label l p s
given-new l p o s t none given = sym (ap (state_in s) (sym (ap (λ x. give_label l p x s) none) ∙ given))

pub taken-word : (l : List ℕ) (p q : Path) (xs : List Label) → label_path l xs ≡ Some q → list_any (same_label (labelled_at l p)) xs ≡ true
taken-word l p q [] e = absurd (absent-present None q refl e)
taken-word l p q (x ∷ xs) e = by_test (bytes_eq l x.label) (taken-word l p q xs) e where
  by_test : (b : Bool) → (label_path l xs ≡ Some q → list_any (same_label (labelled_at l p)) xs ≡ true) → (if b then Some x.path else label_path l xs) ≡ Some q → (b || list_any (same_label (labelled_at l p)) xs) ≡ true
  by_test true rest e = refl
  by_test false rest e = rest e

-- ---- a word that one before it has
or-true : (a b : Bool) → b ≡ true → (a || b) ≡ true
or-true true b e = refl
or-true false b e = e

any-later : (t : Label → Bool) (y : Label) (xs ys : List Label) → t y ≡ true → list_any t (xs ++ y ∷ ys) ≡ true
any-later t y [] ys e = ap (λ b. b || list_any t ys) e
any-later t y (x ∷ xs) ys e = or-true (t x) (list_any t (xs ++ y ∷ ys)) (any-later t y xs ys e)

pub twice-met : (y : Label) (xs ys : List Label) → list_any (same_label y) xs ≡ true → label_twice (xs ++ y ∷ ys) ≡ true
twice-met y [] ys e = absurd (true≢false (sym e))
twice-met y (x ∷ xs) ys e = by_test (same_label y x) refl (twice-met y xs ys) e where
  by_test : (b : Bool) → same_label y x ≡ b → (list_any (same_label y) xs ≡ true → label_twice (xs ++ y ∷ ys) ≡ true) → (b || list_any (same_label y) xs) ≡ true → (list_any (same_label x) (xs ++ y ∷ ys) || label_twice (xs ++ y ∷ ys)) ≡ true
  by_test true is rest e = ap (λ b. b || label_twice (xs ++ y ∷ ys)) (any-later (same_label x) y xs ys (bytes_eq-comm x.label y.label ∙ is))
  by_test false is rest e = or-true (list_any (same_label x) (xs ++ y ∷ ys)) (label_twice (xs ++ y ∷ ys)) (rest e)

pub twice-taken : {V : Type 0} (d : PlacedTree V) (rows : List ℕ) (i : ℕ) → i < length rows → list_any (same_label (label_of d (slice_index_or rows i 0))) (map (label_of d) (take i rows)) ≡ true → label_twice (map (label_of d) rows) ≡ true
twice-taken d rows i within e =
    ap (λ xs. label_twice (map (label_of d) xs)) (sym (take-append-drop i rows) ∙ ap (λ ys. take i rows ++ ys) (drop_more rows i 0 within))
    ∙ ap label_twice (map-append (label_of d) (take i rows) (slice_index_or rows i 0 ∷ drop (i + 1) rows))
    ∙ twice-met (label_of d (slice_index_or rows i 0)) (map (label_of d) (take i rows)) (map (label_of d) (drop (i + 1) rows)) e
