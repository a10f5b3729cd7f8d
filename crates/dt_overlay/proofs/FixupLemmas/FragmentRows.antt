-- Fragments by the rows of nodes.
use Rattle.std.proofs.Common.{◌≡◌, ℕ, zero, suc, ◌+◌, ◌-◌, ◌<◌, ◌≤◌, Bool, true, false, if◌then◌else◌, List, [], ◌∷◌, ◌++◌, map, length, Option, Some, None, is_some, refl, ap, sym, ◌∙◌, true≢false, arith}
use Rattle.std.specs.List.{flat_map}
use Rattle.dt_source.specs.TreeMeaning.Names.{overlay_name}
use Rattle.dt_source.specs.TreeMeaning.Paths.{Path, is_listed}
use Rattle.dt_live.specs.declared.live_tree.LiveTree.{LiveTree}
use Rattle.dt_live.specs.declared.live_tree.NodeRow.{NodeRow}
use Rattle.dt_live.specs.Rows.{child_of, node_path, path_of, row_at, stands}
use Rattle.dt_live.proofs.Climbs.{path-step}
use Rattle.dt_live.proofs.NodeRows.{child-of, not-listed}
use Rattle.dt_live.proofs.StandingProperties.{listed-standing}
use Rattle.dt_live.specs.Flattened.{Lent, IsOrdered, IsWhole, lists, nodes_from}
use Rattle.dt_source.specs.OverlayMeaning.Shifted.{fragment_at, fragments}
use Rattle.dt_overlay.specs.Fixup.Private.Fragments.{are_some}

far-down : (xs : Path) (a b : List ℕ) (nodes : List Path) → false ≡ are_some (fragment_at ((xs ++ a ∷ []) ++ b ∷ []) nodes)
far-down [] a b nodes = refl
far-down (x ∷ []) a b nodes = refl
far-down (x ∷ y ∷ ys) a b nodes = refl

one-listed : (n : List ℕ) (t : Bool) → t ≡ are_some (if t then n ∷ [] else [])
one-listed n true = refl
one-listed n false = refl

module _ (d : LiveTree Lent) (whole : IsWhole d) where
  abbrev rows : List NodeRow
  rows = d.nodes.items

  abbrev all : List Path
  all = (lists d).nodes

  child-by : (n : ℕ) (k : List ℕ) (o : Option ℕ) → n ≤ length rows → child_of d n k ≡ o → is_some o ≡ is_listed (path_of rows n ++ k ∷ []) all
  child-by n k None known is = sym (not-listed rows (child_of d) whole.sound.grown whole.sound.nodes n k (whole.stand n known) is)
  child-by n k (Some m) known is =
      let at = child-of rows (child_of d) m n k whole.sound.grown whole.sound.nodes is (whole.stand n known) in
      sym (ap (λ p. is_listed p all) (sym at.path_is) ∙ listed-standing (path_of rows) (stands rows) (length rows) (m - 1) (omega (arith, at.within)) at.there)

  -- a node has a child where its path is listed
  pub child-listed : (n : ℕ) (k : List ℕ) → n ≤ length rows → is_some (child_of d n k) ≡ is_listed (path_of rows n ++ k ∷ []) all
  child-listed n k known = child-by n k (child_of d n k) known refl

  next : (k : ℕ) → k + 1 ≡ suc k
  next k = omega arith

  -- a child of the root is a fragment where it has a child of that name
  pub top-fragment : (k : ℕ) → k < length rows → (row_at rows k).parent ≡ 0 → is_some (child_of d (k + 1) overlay_name) ≡ are_some (fragment_at (node_path d (k + 1)) all)
  top-fragment k below top =
      let name = (row_at rows k).name.now in
      let path : path_of rows (k + 1) ≡ name ∷ [] =
      ap (path_of rows) (next k) ∙ path-step rows whole.sound.grown k ∙ ap (λ m. path_of rows m ++ name ∷ []) top in
      child-listed (k + 1) overlay_name (omega (arith, below)) ∙ ap (λ p. is_listed (p ++ overlay_name ∷ []) all) path
      ∙ one-listed name (is_listed (name ∷ overlay_name ∷ []) all) ∙ ap (λ p. are_some (fragment_at p all)) (sym path)

  deep-by : (k m : ℕ) → (row_at rows k).parent ≡ m → (m ≡ 0 → ⊥) → false ≡ are_some (fragment_at (node_path d (k + 1)) all)
  deep-by k zero is deep = absurd (deep refl)
  deep-by k (suc m) is deep =
      let name = (row_at rows k).name.now in
      far-down (path_of rows (row_at rows m).parent) (row_at rows m).name.now name all
      ∙ ap (λ p. are_some (fragment_at p all))
      (ap (λ q. q ++ name ∷ []) (sym (ap (path_of rows) is ∙ path-step rows whole.sound.grown m)) ∙ sym (ap (path_of rows) (next k) ∙ path-step rows whole.sound.grown k))

  -- a node further down is none
  pub deep-fragment : (k : ℕ) → ((row_at rows k).parent ≡ 0 → ⊥) → false ≡ are_some (fragment_at (node_path d (k + 1)) all)
  deep-fragment k deep = deep-by k (row_at rows k).parent refl deep

-- ---- one row after the other
-- the fragments of so many rows from one on
abbrev pub fragments_from : LiveTree Lent → ℕ → ℕ → List (List ℕ)
fragments_from d k m = flat_map (λ p. fragment_at p (lists d).nodes) (map (path_of d.nodes.items) (nodes_from (k + 1) m))

none-before : (xs ys : List (List ℕ)) → are_some xs ≡ false → are_some (xs ++ ys) ≡ are_some ys
none-before [] ys none = refl
none-before (x ∷ xs) ys none = absurd (true≢false none)

some-before : (xs ys : List (List ℕ)) → are_some xs ≡ true → are_some (xs ++ ys) ≡ true
some-before [] ys some = absurd (true≢false (sym some))
some-before (x ∷ xs) ys some = refl

pub from-ordered : (d : LiveTree Lent) → IsOrdered d → are_some (fragments_from d 0 (length d.nodes.items)) ≡ are_some (fragments (lists d))
from-ordered d ordered = ap (λ ps. are_some (flat_map (λ p. fragment_at p (lists d).nodes) ps)) (sym ordered.nodes)

pub row-skipped : (d : LiveTree Lent) (k m : ℕ) → are_some (fragment_at (node_path d (k + 1)) (lists d).nodes) ≡ false → are_some (fragments_from d (k + 1) m) ≡ are_some (fragments_from d k (suc m))
row-skipped d k m none = sym (none-before (fragment_at (node_path d (k + 1)) (lists d).nodes) (fragments_from d (k + 1) m) none)

pub row-found : (d : LiveTree Lent) (k m : ℕ) → are_some (fragment_at (node_path d (k + 1)) (lists d).nodes) ≡ true → are_some (fragments_from d k (suc m)) ≡ true
row-found d k m some = some-before (fragment_at (node_path d (k + 1)) (lists d).nodes) (fragments_from d (k + 1) m) some
