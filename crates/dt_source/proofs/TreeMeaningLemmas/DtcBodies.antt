-- Statements and items of dtc's language keep a tree sound.
use Rattle.std.proofs.Common.{◌≡◌, ℕ, zero, suc, ◌+◌, Bool, true, false, not, ◌||◌, List, [], ◌∷◌, ◌++◌, Option, Some, None, Result, Ok, Err, if◌then◌else◌, refl, sym, ap, ◌∙◌, subst, true≢false}
use Rattle.std.specs.Prelude.{All, ok_or, is_some}
use Rattle.std.specs.List.{filter, find}
use Rattle.dt_tree.specs.Steps.{then_do}
use Rattle.dt_tree.specs.Path.{path_names}
use Rattle.dt_source.specs.TreeMeaning.Names.{fragment_name, overlay_name}
use Rattle.dt_source.specs.TreeMeaning.Paths.{Path, name_below, same_path}
use Rattle.dt_source.specs.TreeMeaning.Syntax.{Target, OfLabel, OfPath, Piece, Entry, Defines, Undefines, Child, Removes, Body, Done, Then, Edit, Rooted, Extends, Deletes, Omits}
use Rattle.dt_source.specs.TreeMeaning.Statements.{Fault, UnknownLabel, UnknownPath, DuplicateInBody, ReservedName, target_name, target_value}
use Rattle.dt_source.specs.TreeMeaning.References.{preorder, walk}
use Rattle.dt_source.specs.TreeMeaning.Places.{Row, row, what_stands, has_place}
use Rattle.dt_source.specs.TreeMeaning.DtcEdits.{DtcTree, nothing, node_stands, node_has_place, made_property, made_node, unmade_property, without_all_within, with_labels_at, with_mark, all_below, in_preorder, is_labelled, named_node}
use Rattle.dt_source.specs.TreeMeaning.DtcStatements.{is_first, begun_node, dtc_entry, dtc_body, with_root, dtc_fragment, begins_fragment, dtc_item, dtc_items}
use Rattle.dt_source.specs.TreeMeaning.DtcLaws.{TargetHas, PieceHas, ValueHas, EntryHas, BodyHas, EditHas, FragmentsHave}
use Rattle.dt_source.proofs.TreeMeaningLemmas.SeenNodes.{same-is}
use Rattle.dt_source.proofs.TreeMeaningLemmas.DtcLists.{Each, each-all, each-append, each-flat, each-kept, each-of, find-so, so-none}
use Rattle.dt_source.proofs.TreeMeaningLemmas.StandingRows.{no-place}
use Rattle.dt_source.proofs.TreeMeaningLemmas.DtcSteps.{did, ok-is, not-refused, or-right, not-both, at, each-there, there-so, root-no-child, same-above, IsPath, RootStands, IsSound, IsSoundAt, HasAbove, made-last, node-made, node-begun, node-unmade, without-it, property-made, property-unmade, labels-given}

-- ---- the root
root-there : (rs : List (Row Path)) → Each RootStands rs → has_place (same_path []) rs ≡ true → at [] (what_stands rs) ≡ true
root-there [] h e = absurd (true≢false (sym e))
root-there (r ∷ rs) h e = by_test (same_path [] r.what) refl e (root-there rs h.1) where
  front : (b : Bool) → r.stands ≡ b → same_path [] r.what ≡ true → at [] (what_stands (r ∷ rs)) ≡ true
  front true s is = rw s (ap (λ b. b || at [] (what_stands rs)) is)
  front false s is = not-both r.stands (h.0 is) s

  behind : (b : Bool) → r.stands ≡ b → at [] (what_stands rs) ≡ true → at [] (what_stands (r ∷ rs)) ≡ true
  behind true s there = rw s (or-right (same_path [] r.what) (at [] (what_stands rs)) there)
  behind false s there = rw s there

  by_test : (b : Bool) → same_path [] r.what ≡ b → (b || has_place (same_path []) rs) ≡ true → (has_place (same_path []) rs ≡ true → at [] (what_stands rs) ≡ true) → at [] (what_stands (r ∷ rs)) ≡ true
  by_test true is e rest = front r.stands refl is
  by_test false is e rest = behind r.stands refl (rest e)

module _ (N : List ℕ → Type 0) where
  root-path : IsPath N []
  root-path = (tt, refl)

  root-made : (t : DtcTree) → IsSound N t → IsSoundAt N [] (with_root t)
  root-made t k = by_place (node_has_place [] t) refl where
    by_place : (b : Bool) → node_has_place [] t ≡ b → IsSoundAt N [] (if b then t else record t { nodes = t.nodes ++ row [] ∷ [] })
    by_place true e = (k, root-there t.nodes k.root e)
    by_place false e =
        made-last N [] t root-path (λ q n h. not-both (same_path (q ++ n ∷ []) []) h (root-no-child q n))
        (so-none (same_path []) (what_stands t.nodes) (no-place (same_path []) [] t.nodes e)) k

  -- ---- statements
  child-above : (p : Path) (n : List ℕ) (t : DtcTree) → node_stands p t ≡ true → HasAbove (p ++ n ∷ []) t
  child-above p n t there q m e = ap (λ r. node_stands r t) (same-is q p (same-above q p m n e)) ∙ there

  names-of : (p : Path) (t : DtcTree) → IsSoundAt N p t → Each N p
  names-of p t k = (there-so (IsPath N) p (what_stands t.nodes) k.0.stand.paths k.1).0

  mutual
    entry-kept : (e : Entry (List Piece)) (first : Bool) (p : Path) (t u : DtcTree) → EntryHas N e → dtc_entry e first p t ≡ Ok u → IsSoundAt N p t → IsSoundAt N p u
    entry-kept (Defines n v) first p t u names e k = property-made N first p n v t u names.0 names.1 e k
    entry-kept (Undefines n) first p t u names e k = subst (IsSoundAt N p) (ok-is (unmade_property first p n t) u e) (property-unmade N first p n t k)
    entry-kept (Removes n) first p t u names e k = node-unmade N first p n t u e k
    entry-kept (Child omitted ls n body) first p t u names e k =
        let q = p ++ n ∷ [] in
        let inner = is_first first q t in
        let a = did (begun_node inner omitted ls q t) (dtc_body body inner q) u e in
        let begun = node-begun N inner omitted ls q t a.0 (each-append N p (n ∷ []) (names-of p t k) (names.1, tt)) (each-of N ls names.0) (child-above p n t k.1) a.1 k.0 in
        let ended = body-kept body inner q a.0 u names.2 a.2 begun in
        (ended.0, ended.0.stand.above p n ended.1)

    body-kept : (b : Body (List Piece)) (first : Bool) (p : Path) (t u : DtcTree) → BodyHas N b → dtc_body b first p t ≡ Ok u → IsSoundAt N p t → IsSoundAt N p u
    body-kept Done first p t u names e k = subst (IsSoundAt N p) (ok-is t u e) k
    body-kept (Then s others) first p t u names e k =
        let a = did (dtc_entry s first p t) (dtc_body others first p) u e in
        body-kept others first p a.0 u names.1 a.2 (entry-kept s first p t a.0 names.0 a.1 k)

  -- ---- nodes that references name
  walk-each : (P : Path → Type 0) (k : ℕ) (nodes : List Path) (p : Path) → P p → Each P nodes → Each P (walk k nodes p)
  walk-each P zero nodes p h hs = (h, tt)
  walk-each P (suc k) nodes p h hs =
      (h, each-flat P P (walk k nodes) (filter (λ q. is_some (name_below p q)) nodes) (λ q hq. walk-each P k nodes q hq hs) (each-kept P (λ q. is_some (name_below p q)) nodes hs))

  preorder-each : (P : Path → Type 0) (nodes : List Path) → P [] → Each P nodes → Each P (preorder nodes)
  unfolding preorder
  preorder-each P nodes h hs = walk-each P 64 nodes [] h hs

  pub in-order-there : (t : DtcTree) → Each (λ q. node_stands q t ≡ true) (in_preorder t)
  in-order-there t = by_root (node_stands [] t) refl where
    by_root : (b : Bool) → node_stands [] t ≡ b → Each (λ q. node_stands q t ≡ true) (if b then preorder (all_below t) else [])
    by_root true e = preorder-each (λ q. node_stands q t ≡ true) (all_below t) e (each-kept (λ q. node_stands q t ≡ true) (λ p. not (same_path p [])) (what_stands t.nodes) (each-there (what_stands t.nodes)))
    by_root false e = tt

  label-found : (o : Option Path) (p : Path) → ok_or o UnknownLabel ≡ Ok p → o ≡ Some p
  label-found None p e = absurd (cc)
  label-found (Some q) p e = ap (λ x. Some x) (ok-is q p e)

  path-found : (c : Bool) (q p : Path) → (if c then Ok q else Err UnknownPath) ≡ Ok p → (c ≡ true) × (q ≡ p)
  path-found true q p e = (refl, ok-is q p e)
  path-found false q p e = absurd (cc)

  named-there : (target : Target) (t : DtcTree) (p : Path) → named_node target t ≡ Ok p → node_stands p t ≡ true
  named-there (OfLabel l) t p e =
      find-so (λ q. node_stands q t ≡ true) (is_labelled l t) (in_preorder t) p (in-order-there t) (label-found (find (is_labelled l t) (in_preorder t)) p e)
  named-there (OfPath s) t p e =
      let f = path-found (node_stands (path_names s) t) (path_names s) p e in
      ap (λ q. node_stands q t) (sym f.1) ∙ f.0

  -- ---- items
  module _ (brings : FragmentsHave N) where
    value-has : (target : Target) → TargetHas N target → ValueHas N (target_value target)
    value-has (OfLabel l) h = each-all (PieceHas N) (target_value (OfLabel l)) (h, tt)
    value-has (OfPath s) h = each-all (PieceHas N) (target_value (OfPath s)) (tt, tt)

    fragment-kept : (target : Target) (body : Body (List Piece)) (f : List ℕ) (t u : DtcTree) → N f → TargetHas N target → BodyHas N body → dtc_fragment target body f t ≡ Ok u
        → IsSoundAt N [] t → IsSound N u
    fragment-kept target body f t u name has names e k =
        let q = f ∷ overlay_name ∷ [] in
        let s = record t { fragments = t.fragments + 1 } in
        let last : DtcTree → Result DtcTree Fault = λ v. then_do (made_node true q v) (dtc_body body true q) in
        let said : DtcTree → Result DtcTree Fault = λ v. then_do (made_property true (f ∷ []) (target_name target) (target_value target) v) last in
        let new = not-refused (node_has_place (f ∷ []) t) DuplicateInBody (then_do (made_node true (f ∷ []) s) said) u e in
        let a = did (made_node true (f ∷ []) s) said u new.1 in
        let made = node-made N true (f ∷ []) s a.0 ((name, tt), refl) (child-above [] f s k.1) a.1 (record { stand = k.0.stand; root = k.0.root }) in
        let b = did (made_property true (f ∷ []) (target_name target) (target_value target) a.0) last u a.2 in
        let stated = property-made N true (f ∷ []) (target_name target) (target_value target) a.0 b.0 (brings.target target) (value-has target has) b.1 made in
        let c = did (made_node true q b.0) (dtc_body body true q) u b.2 in
        (body-kept body true q c.0 u names c.2 (node-made N true q b.0 c.0 ((name, (brings.overlay, tt)), refl) (child-above (f ∷ []) overlay_name b.0 stated.1) c.1 stated.0)).0

    item-kept : (plugin : Bool) (i : Edit) (t u : DtcTree) → EditHas N i → dtc_item plugin i t ≡ Ok u → IsSound N t → IsSound N u
    item-kept plugin (Rooted body) t u names e k = (body-kept body (not (node_has_place [] t)) [] (with_root t) u names e (root-made t k)).0
    item-kept plugin (Deletes target) t u names e k =
        let a = did (named_node target t) (λ p. if same_path p [] then Err ReservedName else Ok (without_all_within p t)) u e in
        let b = not-refused (same_path a.0 []) ReservedName (Ok (without_all_within a.0 t)) u a.2 in
        subst (IsSound N) (ok-is (without_all_within a.0 t) u b.1) (without-it N a.0 t b.0 k)
    item-kept plugin (Omits target) t u names e k =
        let a = did (named_node target t) (λ p. Ok (with_mark true p t)) u e in
        subst (IsSound N) (ok-is (with_mark true a.0 t) u a.2) (record { stand = k.stand; root = k.root })
    item-kept plugin (Extends ls target body) t u names e k = by_kind (begins_fragment plugin ls target t) e where
      by_kind : (b : Bool) → (if b then dtc_fragment target body (fragment_name t.fragments) (with_root t) else then_do (named_node target t) (λ p. dtc_body body false p (with_labels_at ls p t))) ≡ Ok u → IsSound N u
      by_kind true e = fragment-kept target body (fragment_name t.fragments) (with_root t) u (brings.fragment t.fragments) names.1 names.2 e (root-made t k)
      by_kind false e =
          let a = did (named_node target t) (λ p. dtc_body body false p (with_labels_at ls p t)) u e in
          (body-kept body false a.0 (with_labels_at ls a.0 t) u names.2 a.2 (labels-given N ls a.0 t (each-of N ls names.0) (k, named-there target t a.0 a.1))).0

    items-kept : (plugin : Bool) (is : List Edit) (t u : DtcTree) → Each (EditHas N) is → dtc_items plugin is t ≡ Ok u → IsSound N t → IsSound N u
    items-kept plugin [] t u names e k = subst (IsSound N) (ok-is t u e) k
    items-kept plugin (i ∷ is) t u names e k =
        let a = did (dtc_item plugin i t) (dtc_items plugin is) u e in
        items-kept plugin is a.0 u names.1 a.2 (item-kept plugin i t a.0 names.0 a.1 k)

    nothing-sound : IsSound N nothing
    nothing-sound = record {
      stand = record { paths = tt; apart = tt; above = λ q n e. absurd (true≢false (sym e)); owners = tt; names = tt; keys = tt; labelled = tt; words = tt };
      root = tt;
    }

    pub all-kept : (plugin : Bool) (is : List Edit) (u : DtcTree) → All (EditHas N) is → dtc_items plugin is nothing ≡ Ok u → IsSound N u
    all-kept plugin is u names e = items-kept plugin is nothing u (each-of (EditHas N) is names) e nothing-sound
