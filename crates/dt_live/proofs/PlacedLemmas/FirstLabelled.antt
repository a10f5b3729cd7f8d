-- The first node in preorder that has a label.
use Rattle.std.proofs.Common.{◌≡◌, ℕ, ◌<◌, ◌≤◌, true, false, List, [], ◌∷◌, length, get_or, map, Option, Some, None, if◌then◌else◌, refl, ap, ◌∙◌, arith}
use Rattle.std.specs.List.{find}
use Rattle.dt_source.specs.TreeMeaning.Paths.{Path, is_listed}
use Rattle.dt_source.specs.TreeMeaning.Syntax.{Piece}
use Rattle.dt_source.specs.TreeMeaning.References.{preorder}
use Rattle.dt_source.specs.TreeMeaning.DtcEdits.{all_below, in_preorder, is_labelled}
use Rattle.dt_live.specs.declared.placed.placed_tree.PlacedTree.{PlacedTree}
use Rattle.dt_live.specs.Placed.Tables.{found_in, rows_in}
use Rattle.dt_live.specs.Placed.PlacedTrees.{IsPlacedTree, IsStanding, dtc_tree, node_path}
use Rattle.dt_live.specs.Placed.References.{AreHolders, IsFirstLabelled, IsFirstOf, IsShallow}
use Rattle.dt_live.specs.Placed.Shown.{first_standing}
use Rattle.dt_live.proofs.PlacedLemmas.Chosen.{node-rows}
use Rattle.dt_live.proofs.PlacedLemmas.FirstHeld.{find-alike, find-none, find-one}
use Rattle.dt_live.proofs.PlacedLemmas.PlacesDown.{at-root}
use Rattle.dt_live.proofs.PlacedLemmas.Preorders.{below-standing, met}

module _ {V : Type 0} (d : PlacedTree V) (sound : IsPlacedTree d) (label : List ℕ) (read : V → List Piece) where
  abbrev order : List Path
  order = preorder (first_standing (rows_in d.nodes) (length (rows_in d.nodes)))

  -- before the first item nothing has it
  pub not-begun : d.begun ≡ false → IsFirstLabelled label d (dtc_tree read d) None
  not-begun e = ap (λ b. find (is_labelled label (dtc_tree read d)) (if b then preorder (all_below (dtc_tree read d)) else [])) (at-root d sound read false e)

  walked : d.begun ≡ true → in_preorder (dtc_tree read d) ≡ order
  walked e = ap (λ b. if b then preorder (all_below (dtc_tree read d)) else []) (at-root d sound read true e).0 ∙ ap preorder (below-standing (rows_in d.nodes) sound.tables.grown d.begun)

  as-holders : d.begun ≡ true → (holders : List ℕ) → AreHolders label d (dtc_tree read d) holders → find (is_labelled label (dtc_tree read d)) (in_preorder (dtc_tree read d)) ≡ find (λ p. is_listed p (map (node_path d) holders)) order
  as-holders e holders are = ap (find (is_labelled label (dtc_tree read d))) (walked e) ∙ find-alike (is_labelled label (dtc_tree read d)) (λ p. is_listed p (map (node_path d) holders)) are order

  pub first-holder : d.begun ≡ true → (holders : List ℕ) → AreHolders label d (dtc_tree read d) holders → (found : Option ℕ) → IsFirstOf d holders found → IsFirstLabelled label d (dtc_tree read d) found
  first-holder e holders are None first = as-holders e holders are ∙ first
  first-holder e holders are (Some node) first = as-holders e holders are ∙ first

  pub no-holder : d.begun ≡ true → (holders : List ℕ) → AreHolders label d (dtc_tree read d) holders → holders ≡ [] → IsFirstLabelled label d (dtc_tree read d) None
  no-holder e holders are none = as-holders e holders are ∙ ap (λ hs. find (λ p. is_listed p (map (node_path d) hs)) order) none ∙ find-none order

  pub one-holder : d.begun ≡ true → IsShallow d → (holders : List ℕ) → AreHolders label d (dtc_tree read d) holders → (node : ℕ) → holders ≡ node ∷ [] → IsStanding d node → IsFirstLabelled label d (dtc_tree read d) (Some node)
  one-holder e shallow holders are node one stands =
      as-holders e holders are ∙ ap (λ hs. find (λ p. is_listed p (map (node_path d) hs)) order) one
      ∙ find-one (node_path d node) order (met (rows_in d.nodes) (found_in d.nodes) (node-rows d sound) shallow node stands.known stands.there)

pub nothing-in : {A : Type 0} (xs : List A) → length xs ≡ 0 → xs ≡ []
nothing-in [] e = refl
nothing-in (x ∷ xs) e = absurd (omega (arith, e))

pub one-in : {A : Type 0} (xs : List A) (d : A) → 0 < length xs → length xs ≤ 1 → xs ≡ get_or xs 0 d ∷ []
one-in [] d some few = absurd (omega (arith, some))
one-in (x ∷ []) d some few = refl
one-in (x ∷ y ∷ xs) d some few = absurd (omega (arith, few))
