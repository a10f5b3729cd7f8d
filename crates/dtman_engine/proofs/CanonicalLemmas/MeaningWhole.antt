-- The canonical source of a tree means that tree.
use Rattle.std.proofs.Common.{◌≡◌, ℕ, Bool, true, false, List, [], ◌∷◌, ◌++◌, map, Result, Ok, Err, if◌then◌else◌, cond, refl, sym, ap, ap₂, ◌∙◌, append-nil}
use Rattle.std.specs.List.{flat_map, list_any}
use Rattle.std.proofs.lemmas.List.{map-append}
use Rattle.dt_tree.specs.Steps.{then_do, each}
use Rattle.dt_tree.specs.PathMap.{tree_map}
use Rattle.dt_tree.specs.TreeData.{TreeData, IsTree, is_reserve}
use Rattle.dt_source.specs.TreeMeaning.Paths.{Path, same_path}
use Rattle.dt_source.specs.TreeMeaning.Syntax.{Piece}
use Rattle.dt_source.specs.TreeMeaning.Edits.{Definition, definition, State}
use Rattle.dt_source.specs.TreeMeaning.Fixups.{value_bytes}
use Rattle.dt_source.specs.TreeMeaning.MapOf.{tree_map_of}
use Rattle.dt_source.specs.TreeMeaning.Phandles.{PathPhandle, named_in_cells, new_ones, assigned, given_of}
use Rattle.dt_source.specs.TreeMeaning.References.{Found, Bytes, found_in, found_value, held, in_order, preorder}
use Rattle.dt_source.specs.TreeMeaning.Resolved.{Resolved, is_too_deep, put_together, resolved, resolved_state, shallow, with_bytes}
use Rattle.dt_source.specs.TreeMeaning.Statements.{Fault, TooDeep}
use Rattle.dt_live.specs.Builder.Lists.{lists_of}
use Rattle.dt_live.proofs.BuilderLemmas.TreeNodes.{tree-nodes}
use Rattle.dt_live.proofs.BuilderLemmas.Walks.{filter-all}
use Rattle.dtman_engine.specs.Canonical.Conditions.{IsSourceTree}
use Rattle.dtman_engine.specs.Canonical.SourceOf.{value_of, source_of}
use Rattle.dtman_engine.proofs.CanonicalLemmas.MeaningEdits.{made, source-made}
use Rattle.dtman_engine.proofs.CanonicalLemmas.MeaningLists.{Placed, said_of, nodes-listed, properties-listed, in_turn, meant, map-meant}
use Rattle.dtman_engine.proofs.CanonicalLemmas.MeaningPhandles.{phandles-given}

-- ---- the walk
held-said : (es : List Placed) (p : Path) → held (map said_of es) p ≡ map said_of (held es p)
held-said [] p = refl
held-said (e ∷ es) p = by_same (same_path p e.path) (held-said es p) where
  by_same : (t : Bool) → held (map said_of es) p ≡ map said_of (held es p) → cond t (said_of e ∷ held (map said_of es) p) (held (map said_of es) p) ≡ map said_of (cond t (e ∷ held es p) (held es p))
  by_same true ih = ap (λ xs. said_of e ∷ xs) ih
  by_same false ih = ih

walk-said : (es : List Placed) (ps : List Path) → flat_map (held (map said_of es)) ps ≡ map said_of (flat_map (held es) ps)
walk-said es [] = refl
walk-said es (p ∷ ps) = ap₂ (λ a b. a ++ b) (held-said es p) (walk-said es ps) ∙ sym (map-append said_of (held es p) (flat_map (held es) ps))

-- ---- values without references
abbrev founds_of : List ℕ → List Found
founds_of [] = []
founds_of (b ∷ bs) = Bytes (b ∷ bs) ∷ []

abbrev found_of : Placed → Definition (List Found)
found_of e = definition e.path e.name (founds_of e.value)

found-one : (s : State (List Piece)) (p : Path) (n v : List ℕ) → then_do (each (found_in false s) (value_of v)) (λ w. Ok (definition p n w)) ≡ Ok (definition p n (founds_of v))
found-one s p n [] = refl
found-one s p n (b ∷ bs) = refl

all-found : (s : State (List Piece)) (es : List Placed) → each (found_value false s) (map said_of es) ≡ Ok (map found_of es)
all-found s [] = refl
all-found s (e ∷ es) =
    ap (λ r. then_do r (λ d. then_do (each (found_value false s) (map said_of es)) (λ ds. Ok (d ∷ ds)))) (found-one s e.path e.name e.value)
    ∙ ap (λ r. then_do r (λ ds. Ok (found_of e ∷ ds))) (all-found s es)

no-cells : (es : List Placed) → named_in_cells (map found_of es) ≡ []
no-cells [] = refl
no-cells (e ∷ es) = by_value e.value (no-cells es) where
  by_value : (v : List ℕ) → named_in_cells (map found_of es) ≡ [] → named_in_cells (definition e.path e.name (founds_of v) ∷ map found_of es) ≡ []
  by_value [] ih = ih
  by_value (b ∷ bs) ih = ih

same-bytes : (xs : List PathPhandle) (v : List ℕ) → value_bytes xs (founds_of v) ≡ v
same-bytes xs [] = refl
same-bytes xs (b ∷ bs) = append-nil (b ∷ bs)

all-bytes : (xs : List PathPhandle) (es : List Placed) → map (with_bytes xs) (map found_of es) ≡ es
all-bytes xs [] = refl
all-bytes xs (e ∷ es) = ap₂ (λ v ds. definition e.path e.name v ∷ ds) (same-bytes xs e.value) (all-bytes xs es)

-- ---- nothing is added
module _ (ns : List Path) (ps : List (Definition (List Piece))) (es : List Placed) (given : List PathPhandle) where
  abbrev s : State (List Piece)
  s = made ns ps

  abbrev plain : Resolved
  plain = record { nodes = ns; properties = es }

  together : put_together false false s (map found_of es) given [] ≡ plain
  together =
      ap₂ (λ a b. record { nodes = a; properties = b })
      (append-nil ((ns ++ []) ++ []) ∙ append-nil (ns ++ []) ∙ append-nil ns)
      (append-nil (((map (with_bytes (given ++ [])) (map found_of es) ++ []) ++ []) ++ [])
      ∙ append-nil ((map (with_bytes (given ++ [])) (map found_of es) ++ []) ++ [])
      ∙ append-nil (map (with_bytes (given ++ [])) (map found_of es) ++ [])
      ∙ append-nil (map (with_bytes (given ++ [])) (map found_of es))
      ∙ all-bytes (given ++ []) es)

  resolved-plain : list_any is_too_deep ns ≡ false → in_order s ≡ map said_of es → given_of (map said_of es) [] ≡ Ok given → resolved_state false false s ≡ Ok plain
  resolved-plain flat order gives =
      let last : List PathPhandle → List (Definition (List Found)) → Result Resolved Fault =
      λ gs ds. shallow (put_together false false s ds gs (assigned gs 0 (new_ones (map (λ x. x.path) gs) (named_in_cells ds ++ [])))) in
      ap₂ (λ a b. then_do a (λ gs. then_do b (last gs)))
      (ap (λ xs. given_of xs []) order ∙ gives)
      (ap (each (found_value false s)) order ∙ all-found s es)
      ∙ ap (λ ws. shallow (put_together false false s (map found_of es) given (assigned given 0 (new_ones (map (λ x. x.path) given) (ws ++ []))))) (no-cells es)
      ∙ ap shallow together
      ∙ ap (λ t. if t then Err TooDeep else Ok plain) flat

-- ---- the whole
pub source-meant : (t : TreeData) → IsTree t → IsSourceTree t → (r : Resolved) × (resolved false (source_of t) ≡ Ok r) × (tree_map t ≡ tree_map_of (source_of t) r)
source-meant t is has =
    let b = t.root in
    let q = lists_of b in
    let ns = q.nodes in
    let ps = map said_of q.properties in
    let given = phandles-given b is.sound has.phandles in (
      meant b is.sound,
      ap (λ r. then_do r (resolved_state false false)) (source-made t is ∙ ap₂ (λ xs ys. Ok (made xs ys)) (nodes-listed b.children) (properties-listed b))
          ∙ resolved-plain ns ps (in_turn b is.sound) given.0 (tree-nodes b is.sound).shallow (walk-said q.properties (preorder ns)) given.1,
      (λ i. record { nodes = map-meant b is.sound i; reserves = sym (filter-all is_reserve t.reserves is.no_end) i; boot_cpu = has.boots i }),
    )
