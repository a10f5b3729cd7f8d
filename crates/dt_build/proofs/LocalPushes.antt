-- The nodes of local fixups, one more after the other in the order of the walk.
use Rattle.std.proofs.Common.{◌≡◌, ℕ, zero, suc, ◌+◌, ◌≤◌, ◌<◌, ◌==◌, Bool, true, false, not, ◌&&◌, ◌||◌, List, [], ◌∷◌, ◌++◌, length, get_or, map, take, cond, refl, sym, ap, ap₂, ◌∙◌, subst, append_assoc, append-nil, length-append, arith}
use Rattle.std.specs.List.{filter, flat_map, list_any}
use Rattle.std.proofs.lemmas.Bool.{eqb-true}
use Rattle.std.proofs.lemmas.List.{map-append, take_all, take_more}
use Rattle.std.proofs.lemmas.List.Concat.{flat_map-append}
use Rattle.dt_tree.specs.declared.property.Property.{Property}
use Rattle.dt_tree.specs.NodeData.{NodeData, property_names}
use Rattle.dt_tree.specs.Sound.{are_distinct}
use Rattle.dt_source.specs.TreeMeaning.Names.{local_fixups_name}
use Rattle.dt_source.specs.TreeMeaning.Paths.{Path, same_path, is_listed, is_within}
use Rattle.dt_source.specs.TreeMeaning.Edits.{Definition}
use Rattle.dt_source.specs.TreeMeaning.References.{held, preorder}
use Rattle.dt_source.specs.TreeMeaning.Resolved.{fronts, is_too_deep, names_taken, with_more}
use Rattle.dt_live.specs.Builder.Lists.{defined_at, with_last}
use Rattle.dt_live.specs.Builder.Builders.{built_lists}
use Rattle.dt_live.specs.Builder.Standing.{AreNodes, behind_root, walked}
use Rattle.dt_live.proofs.BuilderLemmas.InTurn.{each-once, before-apart}
use Rattle.dt_live.proofs.BuilderLemmas.Orders.{behind, there-same}
use Rattle.dt_live.proofs.BuilderLemmas.PathFacts.{bytes-itself, not-both, same-itself}
use Rattle.dt_live.proofs.BuilderLemmas.Pushes.{IsNext, next-fits}
use Rattle.dt_live.proofs.BuilderLemmas.Standing.{listed-both}
use Rattle.dt_live.specs.Rows.{node_path}
use Rattle.dt_live.proofs.BuilderLemmas.MakingWalk.{names-defined}
use Rattle.dt_build.specs.Edit.Said.{tree_of}
use Rattle.dt_build.specs.declared.draft.Draft.{Draft}
use Rattle.dt_build.specs.declared.local_properties.LocalFixup.{LocalFixup}
use Rattle.dt_build.specs.Private.Made.{fixup_lists, lists, made_sites}
use Rattle.dt_build.specs.Private.FixupSites.{key_at}
use Rattle.dt_build.specs.Private.LocalFixups.{all_local, first_local, has_local, local_definitions, local_path, nodes_with, with_locals}
use Rattle.dt_build.specs.Private.NodePhandles.{path_at}
use Rattle.dt_build.specs.Private.Ready.{IsReady}
use Rattle.dt_build.proofs.ListsOfPrepared.{fixups-whole, lists-whole, local-new}
use Rattle.dt_live.proofs.MakingNodes.{at-path, count}
use Rattle.dt_build.proofs.MakingNodes.{order-of}
use Rattle.dt_build.proofs.LocalLists.{local_fixups-distinct}
use Rattle.dt_build.proofs.LocalMade.{local-made, local_paths, nothing-behind, of-plugin, there}
use Rattle.dt_build.proofs.MoreLists.{fronts_of, listed-fronts, listed-new}
use Rattle.dt_build.proofs.SymbolsLast.{kept-both, with-none}

-- ---- lists
split-at : (xs : List Path) (k : ℕ) → k < length xs → (ys : List Path) × (xs ≡ take k xs ++ get_or xs k [] ∷ ys)
split-at [] k below = absurd (omega (arith, below))
split-at (x ∷ xs) zero below = (xs, refl)
split-at (x ∷ xs) (suc k) below = let r = split-at xs k (omega (arith, below)) in (r.0, ap (λ ys. x ∷ ys) r.1)

get-mid : (xs : List Path) (y : Path) (ys : List Path) → get_or (xs ++ y ∷ ys) (length xs) [] ≡ y
get-mid [] y ys = refl
get-mid (x ∷ xs) y ys = get-mid xs y ys

take-mid : (xs ys : List Path) → take (length xs) (xs ++ ys) ≡ xs
take-mid [] ys = refl
take-mid (x ∷ xs) ys = ap (λ zs. x ∷ zs) (take-mid xs ys)

get-before : (xs ys : List Path) (i : ℕ) → i < length xs → get_or (xs ++ ys) i [] ≡ get_or xs i []
get-before [] ys i below = absurd (omega (arith, below))
get-before (x ∷ xs) ys zero below = refl
get-before (x ∷ xs) ys (suc i) below = get-before xs ys i (omega (arith, below))

get-last : (x : Path) (xs : List Path) (y : Path) → get_or (x ∷ (xs ++ y ∷ [])) (length (xs ++ y ∷ [])) [] ≡ y
get-last x [] y = refl
get-last x (z ∷ zs) y = get-last z zs y

listed-taken : (xs : List Path) (i j : ℕ) → i < j → j < length xs → is_listed (get_or xs i []) (take j xs) ≡ true
listed-taken [] i j less below = absurd (omega (arith, below))
listed-taken (x ∷ xs) i zero less below = absurd (omega (arith, less))
listed-taken (x ∷ xs) zero (suc j) less below = ap (λ t. t || is_listed x (take j xs)) (same-itself x)
listed-taken (x ∷ xs) (suc i) (suc j) less below = later (same_path (get_or xs i []) x) (listed-taken xs i j (omega (arith, less)) (omega (arith, below))) where
  later : (t : Bool) {s : Bool} → s ≡ true → (t || s) ≡ true
  later true e = refl
  later false e = e

-- ---- marks
module _ (p : Draft) (q : Path) (some : 1 ≤ length q) where
  one-mark : (x : Path) → is_listed (local_path q) (fronts (local_path x)) ≡ is_listed q (fronts x)
  one-mark x =
      listed-fronts (local_path q) (local_path x) ∙ ap (λ t. t && is_within q x) (bytes-itself local_fixups_name)
      ∙ by_first q some ∙ sym (listed-fronts q x) where
        by_first : (p : Path) → 1 ≤ length p → is_within p x ≡ (not (same_path p []) && is_within p x)
        by_first [] le = absurd (omega (arith, le))
        by_first (y ∷ ys) le = refl

  all-marks : (xs : List LocalFixup) → list_any (λ x. is_listed q (fronts (key_at p x.property).path)) xs ≡ is_listed (local_path q) (fronts_of (local_definitions p xs))
  all-marks [] = refl
  all-marks (x ∷ xs) = ap₂ (λ a b. a || b) (sym (one-mark (key_at p x.property).path)) (all-marks xs) ∙ sym (listed-both (local_path q) (fronts (local_path (key_at p x.property).path)) (fronts_of (local_definitions p xs)))

  pub mark-is : (xs : List LocalFixup) → local_definitions p xs ≡ all_local p → (t : Bool) → t ≡ list_any (λ x. is_listed q (fronts (key_at p x.property).path)) xs → t ≡ has_local p q
  mark-is xs are t is = is ∙ all-marks xs ∙ ap (λ es. is_listed (local_path q) (fronts_of es)) are ∙ sym (listed-new (local_path q) (fronts_of (all_local p)))

-- ---- none
pub no-local : (symbols : Bool) (p : Draft) (bs : List NodeData) → built_lists bs ≡ walked (fixup_lists symbols p) → all_local p ≡ [] → built_lists bs ≡ walked (lists symbols p)
no-local symbols p bs made none = made ∙ ap walked (sym (ap (λ es. with_more es (fixup_lists symbols p)) none ∙ with-none (fixup_lists symbols p)))

pub plugin-locals : (p : Draft) (xs : List LocalFixup) → local_definitions p xs ≡ all_local p → 0 < length xs → p.plugin ≡ true
plugin-locals p [] are some = absurd (omega (arith, some))
plugin-locals p (x ∷ xs) are some = of-plugin p _ _ (sym are)

pub none-locals : (p : Draft) (xs : List LocalFixup) → local_definitions p xs ≡ all_local p → length xs ≡ 0 → all_local p ≡ []
none-locals p [] are none = sym are
none-locals p (x ∷ xs) are none = absurd (omega (arith, none))

-- no name stands twice
pub distinct-local : (p : Draft) (q : Path) (ps : List Property) → defined_at (local_path q) ps ≡ held (all_local p) (local_path q) → are_distinct (property_names ps) ≡ true
distinct-local p q ps is = ap are_distinct (names-defined (local_path q) ps ∙ ap (map (λ e. e.name)) is) ∙ local_fixups-distinct (made_sites p) (local_path q)

-- ---- the nodes of the walk
module _ (symbols : Bool) (p : Draft) (ready : IsReady p) (free : names_taken symbols p.plugin (tree_of p.live) ≡ false) (shallow : list_any is_too_deep (lists symbols p).nodes ≡ false) (plugin : p.plugin ≡ true) where
  abbrev order : List Path
  order = preorder (tree_of p.live).nodes

  abbrev all : List Path
  all = local_paths p

  abbrev so_far : ℕ → List Path
  so_far k = nodes_with symbols p (first_local p k)

  whole-is : walked (lists symbols p) ≡ with_locals symbols p all
  whole-is = local-made symbols p ready free shallow

  are : AreNodes (lists symbols p).nodes
  are = (lists-whole symbols p ready free shallow).nodes

  abbrev rest : List Path
  rest = behind_root (preorder (lists symbols p).nodes)

  -- nodes differ
  pub other-node : (i j : ℕ) → i < j → j < length p.in_preorder.nodes.items → (get_or p.in_preorder.nodes.items j 0 == get_or p.in_preorder.nodes.items i 0) ≡ false
  other-node i j less below = by_test (get_or p.in_preorder.nodes.items j 0 == get_or p.in_preorder.nodes.items i 0) refl where
    within : j < length order
    within = omega (arith, below, count (order-of p ready))

    by_test : (t : Bool) → (get_or p.in_preorder.nodes.items j 0 == get_or p.in_preorder.nodes.items i 0) ≡ t → t ≡ false
    by_test true e =
        let same : path_at p j ≡ path_at p i = ap (node_path p.live) (eqb-true (get_or p.in_preorder.nodes.items j 0) (get_or p.in_preorder.nodes.items i 0) e) in
        let here : get_or order j [] ≡ get_or order i [] = at-path (order-of p ready) j below ∙ same ∙ sym (at-path (order-of p ready) i (omega (arith, less, below))) in
        not-both (is_listed (get_or order i []) (take j order)) (listed-taken order i j less within)
        (ap (λ q. is_listed q (take j order)) (sym here) ∙ before-apart order j (each-once (tree_of p.live).nodes ready.standing) within)
    by_test false e = refl

  module _ (k : ℕ) (below : k < length p.in_preorder.nodes.items) where
    within : k < length order
    within = omega (arith, below, count (order-of p ready))

    q-is : get_or order k [] ≡ path_at p k
    q-is = at-path (order-of p ready) k below

    taken : take (k + 1) order ≡ take k order ++ path_at p k ∷ []
    taken = take_more order k [] within ∙ ap (λ q. take k order ++ q ∷ []) q-is

    pub first-same : has_local p (path_at p k) ≡ false → first_local p (k + 1) ≡ first_local p k
    first-same gone =
        ap (filter (has_local p)) taken ∙ kept-both (has_local p) (take k order) (path_at p k ∷ [])
        ∙ ap (λ t. first_local p k ++ cond t (path_at p k ∷ []) []) gone ∙ append-nil (first_local p k)

    module _ (on : has_local p (path_at p k) ≡ true) where
      first-more : first_local p (k + 1) ≡ first_local p k ++ path_at p k ∷ []
      first-more =
          ap (filter (has_local p)) taken ∙ kept-both (has_local p) (take k order) (path_at p k ∷ [])
          ∙ ap (λ t. first_local p k ++ cond t (path_at p k ∷ []) []) on

      all-split : all ≡ first_local p k ++ path_at p k ∷ filter (has_local p) (split-at order k within).0
      all-split =
          let r = split-at order k within in
          ap (filter (has_local p)) (r.1 ∙ ap (λ q. take k order ++ q ∷ r.0) q-is)
          ∙ kept-both (has_local p) (take k order) (path_at p k ∷ r.0)
          ∙ ap (λ t. first_local p k ++ cond t (path_at p k ∷ filter (has_local p) r.0) (filter (has_local p) r.0)) on

      abbrev tail : List Path
      tail = map local_path (filter (has_local p) (split-at order k within).0)

      rest-is : rest ≡ so_far k ++ local_path (path_at p k) ∷ tail
      rest-is =
          ap (λ r. r.nodes) whole-is ∙ ap (λ qs. (walked (fixup_lists symbols p)).nodes ++ map local_path qs) all-split
          ∙ ap (λ qs. (walked (fixup_lists symbols p)).nodes ++ qs) (map-append local_path (first_local p k) (path_at p k ∷ filter (has_local p) (split-at order k within).0))
          ∙ sym (append_assoc (walked (fixup_lists symbols p)).nodes (map local_path (first_local p k)) (local_path (path_at p k) ∷ tail))

      so_far-more : so_far (k + 1) ≡ so_far k ++ local_path (path_at p k) ∷ []
      so_far-more =
          ap (λ qs. (walked (fixup_lists symbols p)).nodes ++ map local_path qs) first-more
          ∙ ap (λ qs. (walked (fixup_lists symbols p)).nodes ++ qs) (map-append local_path (first_local p k) (path_at p k ∷ []))
          ∙ sym (append_assoc (walked (fixup_lists symbols p)).nodes (map local_path (first_local p k)) (local_path (path_at p k) ∷ []))

      pub local-next : (last_node above : Path) (name : List ℕ) (depth : ℕ) → last_node ≡ get_or ([] ∷ so_far k) (length (so_far k)) [] → path_at p k ≡ above ++ name ∷ [] → depth ≡ length (path_at p k) + 1
          → IsNext last_node (so_far k) depth name (local_path (path_at p k))
      local-next last_node above name depth came is deep =
          let i = length (so_far k) in
          let x = local_path (path_at p k) in
          let before : take i rest ≡ so_far k = ap (take i) rest-is ∙ take-mid (so_far k) (x ∷ tail) in
          let here : get_or rest i [] ≡ x = ap (λ xs. get_or xs i []) rest-is ∙ get-mid (so_far k) x tail in
          let fits : i < length rest = omega (arith, ap length rest-is, length-append (so_far k) (x ∷ tail)) in
          let from : last_node ≡ get_or (preorder (lists symbols p).nodes) i [] =
          came ∙ sym (get-before ([] ∷ so_far k) (x ∷ tail) i (omega arith)) ∙ ap (λ xs. get_or ([] ∷ xs) i []) (sym rest-is) ∙ ap (λ xs. get_or xs i []) (behind (lists symbols p) are) in
          let long : depth ≡ length (local_path above) + 1 = omega (arith, deep, ap length is, length-append above (name ∷ [])) in
          let f = next-fits (lists symbols p).nodes are i fits last_node (local_path above) name depth from (here ∙ ap local_path is) long in
          subst (λ (y : Path). IsNext last_node (so_far k) depth name y) here (subst (λ (ys : List Path). IsNext last_node ys depth name (get_or rest i [])) before f)

      pub local-more : (ps : List Property) → defined_at (local_path (path_at p k)) ps ≡ held (all_local p) (local_path (path_at p k))
          → with_last (local_path (path_at p k)) ps (with_locals symbols p (first_local p k)) ≡ with_locals symbols p (first_local p (k + 1))
      local-more ps own =
          let h : Path → List (Definition (List ℕ)) = λ q. held (all_local p) (local_path q) in
          let values : ((walked (fixup_lists symbols p)).properties ++ flat_map h (first_local p k)) ++ defined_at (local_path (path_at p k)) ps ≡ (walked (fixup_lists symbols p)).properties ++ flat_map h (first_local p (k + 1)) =
          append_assoc (walked (fixup_lists symbols p)).properties (flat_map h (first_local p k)) (defined_at (local_path (path_at p k)) ps)
          ∙ ap (λ ds. (walked (fixup_lists symbols p)).properties ++ ds)
          (ap (λ ds. flat_map h (first_local p k) ++ ds) (own ∙ sym (append-nil (h (path_at p k))))
          ∙ sym (ap (flat_map h) first-more ∙ flat_map-append h (first_local p k) (path_at p k ∷ []))) in
          λ i. record { nodes = sym so_far-more i; properties = values i }

      pub last_node-more : local_path (path_at p k) ≡ get_or ([] ∷ so_far (k + 1)) (length (so_far (k + 1))) []
      last_node-more = sym (ap (λ xs. get_or ([] ∷ xs) (length xs) []) so_far-more ∙ get-last [] (so_far k) (local_path (path_at p k)))

  pub local-all : (k : ℕ) → length p.in_preorder.nodes.items ≤ k → with_locals symbols p (first_local p k) ≡ walked (lists symbols p)
  local-all k le = ap (λ qs. with_locals symbols p (filter (has_local p) qs)) (take_all k order (omega (arith, le, count (order-of p ready)))) ∙ sym whole-is

  -- ---- the first
  pub local-none : walked (fixup_lists symbols p) ≡ with_locals symbols p (first_local p 0)
  local-none = nothing-behind (walked (fixup_lists symbols p))

  pub top-new : is_listed (local_path []) (walked (fixup_lists symbols p)).nodes ≡ false
  top-new = sym (there-same (fixup_lists symbols p) (fixups-whole symbols p ready free).nodes (local_path [])) ∙ local-new symbols p ready free plugin

  pub top-there : (xs : List LocalFixup) → local_definitions p xs ≡ all_local p → 0 < length xs → has_local p [] ≡ true
  top-there [] is some = absurd (omega (arith, some))
  top-there (x ∷ xs) is some = there symbols p ready free shallow _ _ (sym is)
