-- One row more, and a list's first item done.
use Rattle.std.proofs.Common.{◌≡◌, ℕ, suc, ◌+◌, ◌<◌, Bool, true, false, List, [], ◌∷◌, ◌++◌, length, drop, get_or, map, if◌then◌else◌, drop-cons, add-one, refl, sym, ap, ◌∙◌, arith}
use Rattle.dt_tree.specs.declared.property.Property.{Property}
use Rattle.dt_tree.specs.NodeData.{NodeData, siblings}
use Rattle.dt_source.specs.TreeMeaning.Paths.{Path}
use Rattle.dt_source.specs.TreeMeaning.Edits.{Definition, definition, State, is_of, put, with_node, with_property}
use Rattle.dt_source.specs.TreeMeaning.Resolved.{Resolved}
use Rattle.dt_live.specs.declared.live_tree.LiveTree.{LiveTree}
use Rattle.dt_live.specs.Rows.{IsKept, HasSameNodes, IsNode, is_standing, node_path, state_of}
use Rattle.dt_live.proofs.Keeping.{below-not-itself, kept-same, kept-then}
use Rattle.dt_live.specs.Flattened.{Lent, plain, lists}
use Rattle.dt_live.specs.Private.Flattening.{with_path, with_value, with_values, with_siblings, with_tree}

-- ---- what is left begins with the item at hand
pub left-item : {A : Type 0} (xs : List A) (i : ℕ) (x : A) → i < length xs → x ≡ get_or xs i x → drop i xs ≡ x ∷ drop (i + 1) xs
left-item xs i x h e = rw (add-one, drop-cons xs i x) (ap (λ y. y ∷ drop (suc i) xs) (sym e))

pub values-left : (p : Path) (xs : List Property) (i : ℕ) (x : Property) (r : Resolved) → i < length xs → x ≡ get_or xs i x
    → with_values p (drop i xs) r ≡ with_values p (drop (i + 1) xs) (with_value p x r)
values-left p xs i x r h e = ap (λ ys. with_values p ys r) (left-item xs i x h e)

pub siblings-left : (p : Path) (bs : List NodeData) (i : ℕ) (b : NodeData) (r : Resolved) → i < length bs → b ≡ get_or bs i b
    → with_siblings p (siblings (drop i bs)) r ≡ with_siblings p (siblings (drop (i + 1) bs)) (with_tree (p ++ b.name ∷ []) b (with_path (p ++ b.name ∷ []) r))
siblings-left p bs i b r h e = ap (λ cs. with_siblings p (siblings cs) r) (left-item bs i b h e)

-- ---- one row more
pub put-plain : (p : Path) (n : List ℕ) (v : Lent) (es : List (Definition Lent)) → map plain (put p n v es) ≡ put p n v.now (map plain es)
put-plain p n v [] = refl
put-plain p n v (e ∷ es) = by_test (is_of p n e) (put-plain p n v es) where
  by_test : (t : Bool) → map plain (put p n v es) ≡ put p n v.now (map plain es)
      → map plain (if t then definition p n v ∷ es else e ∷ put p n v es) ≡ (if t then definition p n v.now ∷ map plain es else plain e ∷ put p n v.now (map plain es))
  by_test true ih = refl
  by_test false ih = ap (λ ds. plain e ∷ ds) ih

abbrev pub seen : State Lent → Resolved
seen s = record { nodes = s.nodes; properties = map plain s.properties }

pub property-more : (old new : LiveTree Lent) (p : Path) (x : Property) (v : Lent) → v.now ≡ x.value → state_of new ≡ with_property p x.name v (state_of old)
    → lists new ≡ with_value p x (lists old)
property-more old new p x v same e =
    ap seen e ∙ (λ i. record { nodes = (lists old).nodes; properties = (put-plain p x.name v (state_of old).properties ∙ ap (λ w. put p x.name w (lists old).properties) same) i })

pub node-more : (old new : LiveTree Lent) (p : Path) → state_of new ≡ with_node p (state_of old) → lists new ≡ with_path p (lists old)
node-more old new p e = ap seen e

-- ---- what is kept
abbrev pub AreKept : LiveTree Lent → LiveTree Lent → Type 0
AreKept old new = (p : Path) → IsKept p old new

pub all-kept : (old new : LiveTree Lent) → HasSameNodes old new → AreKept old new
all-kept old new same p = kept-same p old.nodes.items new.nodes.items same

pub all-then : (old mid new : LiveTree Lent) → AreKept old mid → AreKept mid new → AreKept old new
all-then old mid new a b p = kept-then p old.nodes.items mid.nodes.items new.nodes.items (a p) (b p)

module _ (old new : LiveTree Lent) (kept : AreKept old new) (n : ℕ) (known : IsNode old n) where
  pub still-known : IsNode new n
  still-known = let more = (kept []).more in omega (arith)

  pub still-there : is_standing old n ≡ true → is_standing new n ≡ true
  still-there there = (kept (node_path old n)).stand n known there (below-not-itself (node_path old n))

  pub same-path-of : node_path new n ≡ node_path old n
  same-path-of = (kept []).paths n known
