-- The nodes that a whole live tree shows are the nodes of a tree; and an overlay's nodes are no deeper than they may be.
use Rattle.std.proofs.Common.{◌≡◌, ℕ, Bool, true, false, ◌||◌, List, [], ◌∷◌, ◌++◌, length, Option, Some, None, Result, Ok, Err, if◌then◌else◌, refl, sym, ap, ap₂, ◌∙◌}
use Rattle.std.specs.Prelude.{ok_or}
use Rattle.std.specs.List.{list_any}
use Rattle.dt_tree.specs.Steps.{then_do, fold}
use Rattle.dt_source.specs.TreeMeaning.Paths.{Path, is_listed}
use Rattle.dt_source.specs.TreeMeaning.Names.{symbols_name}
use Rattle.dt_source.specs.TreeMeaning.Resolved.{Resolved, is_too_deep}
use Rattle.dt_source.specs.OverlayMeaning.Fault.{Fault, PhandleClash, TooDeep, NoTarget}
use Rattle.dt_source.specs.OverlayMeaning.Shifted.{Value}
use Rattle.dt_source.specs.OverlayMeaning.Texts.{ended_path}
use Rattle.dt_source.specs.OverlayMeaning.Applied.{clashes, merged, part_of, symbol_path, target, with_fragment, with_node, with_nodes, with_symbol_at, with_symbols, with_values}
use Rattle.dt_live.specs.declared.live_tree.LiveTree.{LiveTree}
use Rattle.dt_live.specs.Index.{row_of}
use Rattle.dt_live.proofs.NodesStanding.{are-nodes}
use Rattle.dt_live.specs.Flattened.{IsWhole, Lent, lists}
use Rattle.dt_live.specs.Builder.Standing.{AreNodes}
use Rattle.dt_live.proofs.BuilderLemmas.PathFacts.{or-false}

-- ---- the nodes of a whole live tree
module _ (d : LiveTree Lent) (w : IsWhole d) where
  pub whole-nodes : list_any is_too_deep (lists d).nodes ≡ false → AreNodes (lists d).nodes
  whole-nodes shallow = are-nodes d.nodes.items (row_of d.node_rows) w.sound.grown w.sound.nodes (length d.nodes.items) shallow

-- ---- nothing gets too deep
abbrev pub IsShallow : Resolved → Type 0
IsShallow r = list_any is_too_deep r.nodes ≡ false

any-last : (xs : List Path) (p : Path) → list_any is_too_deep xs ≡ false → is_too_deep p ≡ false → list_any is_too_deep (xs ++ p ∷ []) ≡ false
any-last [] p a b = ap (λ t. t || false) b
any-last (x ∷ xs) p a b =
    let parts = or-false (is_too_deep x) (list_any is_too_deep xs) a in
    ap₂ (λ s t. s || t) parts.0 (any-last xs p parts.1 b)

one-node-more : (p : Path) (ps : List Path) → is_too_deep p ≡ false → list_any is_too_deep ps ≡ false → list_any is_too_deep (with_node p ps) ≡ false
one-node-more p ps a b = by_test (is_listed p ps) where
  by_test : (t : Bool) → list_any is_too_deep (if t then ps else ps ++ p ∷ []) ≡ false
  by_test true = b
  by_test false = any-last ps p b a

more-nodes : (qs ps : List Path) → list_any is_too_deep qs ≡ false → list_any is_too_deep ps ≡ false → list_any is_too_deep (with_nodes qs ps) ≡ false
more-nodes [] ps a b = b
more-nodes (q ∷ qs) ps a b =
    let parts = or-false (is_too_deep q) (list_any is_too_deep qs) a in
    more-nodes qs (with_node q ps) parts.1 (one-node-more q ps parts.0 b)

merged-shallow : (part t r : Resolved) → merged part t ≡ Ok r → IsShallow t → IsShallow r
merged-shallow part t r is s = by_tests (list_any (clashes t.properties) part.properties) (list_any is_too_deep part.nodes) refl is where
  by_tests : (a b : Bool) → list_any is_too_deep part.nodes ≡ b
      → (if a then Err PhandleClash else (if b then Err TooDeep else Ok (record { nodes = with_nodes part.nodes t.nodes; properties = with_values part.properties t.properties }))) ≡ Ok r
      → IsShallow r
  by_tests true b deep e = absurd (cc)
  by_tests false true deep e = absurd (cc)
  by_tests false false deep e =
      let same : record { nodes = with_nodes part.nodes t.nodes; properties = with_values part.properties t.properties } ≡ r = cc in
      ap (λ x. list_any is_too_deep x.nodes) (sym same) ∙ more-nodes part.nodes t.nodes deep s

fragment-shallow : (base over : Resolved) (f : List ℕ) (t r : Resolved) → with_fragment base over f t ≡ Ok r → IsShallow t → IsShallow r
fragment-shallow base over f t r is s = by_target (target base over f) is where
  by_target : (o : Option Path) → then_do (ok_or o NoTarget) (λ p. merged (part_of over f p) t) ≡ Ok r → IsShallow r
  by_target None e = absurd (cc)
  by_target (Some p) e = merged-shallow (part_of over f p) t r e s

pub fold-shallow : (base over : Resolved) (fs : List (List ℕ)) (t r : Resolved) → fold (with_fragment base over) fs t ≡ Ok r → IsShallow t → IsShallow r
fold-shallow base over [] t r is s =
    let same : t ≡ r = cc in
    ap (λ x. list_any is_too_deep x.nodes) (sym same) ∙ s
fold-shallow base over (f ∷ fs) t r is s = by_first (with_fragment base over f t) refl is (fold-shallow base over fs) where
  by_first : (o : Result Resolved Fault) → with_fragment base over f t ≡ o → then_do o (fold (with_fragment base over) fs) ≡ Ok r
      → ((u v : Resolved) → fold (with_fragment base over) fs u ≡ Ok v → IsShallow u → IsShallow v) → IsShallow r
  by_first (Err e) was h ih = absurd (cc)
  by_first (Ok u) was h ih = ih u r h (fragment-shallow base over f t u was s)

pub symbols-shallow : (base over : Resolved) (es : List Value) (t : Resolved) → IsShallow t → IsShallow (with_symbols base over es t)
symbols-shallow base over [] t s = s
symbols-shallow base over (e ∷ es) t s = symbols-shallow base over es (with_symbol_at (symbol_path base over (ended_path e.value)) e.name t) (one (symbol_path base over (ended_path e.value))) where
  one : (o : Option Path) → IsShallow (with_symbol_at o e.name t)
  one None = s
  one (Some p) = one-node-more (symbols_name ∷ []) t.nodes refl s
