-- Items of dtc's language, one after the other.
use Rattle.std.proofs.Common.{◌≡◌, ℕ, ◌+◌, ◌≤◌, Bool, true, false, not, ◌&&◌, List, [], ◌∷◌, ◌++◌, length, Result, Ok, Err, if◌then◌else◌, refl, sym, ap, ◌∙◌, arith}
use Rattle.std.specs.Prelude.{nat_lt}
use Rattle.std.specs.List.{list_any}
use Rattle.dt_tree.specs.Steps.{then_do}
use Rattle.dt_source.specs.TreeMeaning.Names.{fragment_name, overlay_name}
use Rattle.dt_source.specs.TreeMeaning.Paths.{Path, same_path}
use Rattle.dt_source.specs.TreeMeaning.Places.{row, place, has_place, has_two_places, put_in_place}
use Rattle.dt_source.specs.TreeMeaning.Resolved.{is_too_deep}
use Rattle.dt_source.specs.TreeMeaning.Syntax.{Piece, Target, Entry, Defines, Undefines, Child, Removes, Body, Done, Then, Edit, Rooted, Extends, Deletes, Omits}
use Rattle.dt_source.specs.TreeMeaning.Edits.{definition, is_of, labelled_at}
use Rattle.dt_source.specs.TreeMeaning.Statements.{Fault, DuplicateInBody, ReservedName, TooDeep, target_name, target_value}
use Rattle.dt_source.specs.TreeMeaning.DtcEdits.{DtcTree, nothing, all_below, given_in_turn, is_label_at, made_node, made_property, named_node, node_has_place, node_stands, unmade_node, unmade_property, with_labels_at, with_mark, without_all_within}
use Rattle.dt_source.specs.TreeMeaning.DtcStatements.{begins_fragment, begun_node, dtc_body, dtc_entry, dtc_fragment, dtc_item, dtc_items, is_first, with_root}
use Rattle.dt_source.specs.TreeMeaning.DtcLaws.{IsAny}
use Rattle.dt_source.proofs.TreeMeaningLemmas.DtcSound.{any-sound, state-sound}
use Rattle.dt_live.specs.declared.placed.placed_tree.PlacedTree.{PlacedTree}
use Rattle.dt_live.specs.Placed.PlacedTrees.{IsPlacedTree}
use Rattle.dt_live.specs.Placed.References.{IsShallow}
use Rattle.dt_live.specs.Placed.Tables.{rows_in}
use Rattle.dt_live.proofs.PlacedLemmas.Preorders.{below-standing}
use Rattle.dt_build.specs.Edit.Said.{Parts}
use Rattle.dt_build.specs.Edit.Fragments.{target_values}
use Rattle.dt_build.specs.Edit.Private.DtcEdited.{placed_of}

-- ---- steps that went well
abbrev done : DtcTree → Result DtcTree Fault
done t = Ok t

same-done : (t u : DtcTree) → Ok t ≡ done u → u.fragments ≡ t.fragments
same-done t u e =
    let is : t ≡ u = cc in
    ap (λ (x : DtcTree). x.fragments) (sym is)

abbrev HasSame : DtcTree → DtcTree → Type 0
HasSame t u = u.fragments ≡ t.fragments

did : (r : Result DtcTree Fault) (g : DtcTree → Result DtcTree Fault) (u : DtcTree) → then_do r g ≡ Ok u → (a : DtcTree) × (r ≡ Ok a) × (g a ≡ Ok u)
did (Ok a) g u e = (a, refl, e)
did (Err f) g u e = absurd (cc)

did-at : (r : Result Path Fault) (g : Path → Result DtcTree Fault) (u : DtcTree) → then_do r g ≡ Ok u → (p : Path) × (g p ≡ Ok u)
did-at (Ok p) g u e = (p, e)
did-at (Err f) g u e = absurd (cc)

not-refused : (c : Bool) (f : Fault) (r : Result DtcTree Fault) (u : DtcTree) → (if c then Err f else r) ≡ Ok u → r ≡ Ok u
not-refused true f r u e = absurd (cc)
not-refused false f r u e = e

-- ---- fragments are counted where they are made
labels-same : (ls : List (List ℕ)) (p : Path) (t : DtcTree) → HasSame t (with_labels_at ls p t)
labels-same [] p t = refl
labels-same (l ∷ ls) p t = labels-same ls p (record t { labels = put_in_place (is_label_at l p) (labelled_at l p) t.labels })

property-same : (first : Bool) (p : Path) (n : List ℕ) (v : List Piece) (t u : DtcTree) → made_property first p n v t ≡ Ok u → HasSame t u
property-same true p n v t u e =
    let w = record t { properties = t.properties ++ row (definition p n v) ∷ [] } in
    same-done w u (not-refused (list_any (is_of p n) _) DuplicateInBody (Ok w) u e)
property-same false p n v t u e =
    let w = record t { properties = put_in_place (is_of p n) (definition p n v) t.properties } in
    same-done w u (not-refused (has_two_places (is_of p n) t.properties) DuplicateInBody (Ok w) u e)

unmade-same : (first : Bool) (p : Path) (n : List ℕ) (t : DtcTree) → HasSame t (unmade_property first p n t)
unmade-same true p n t = by_place (has_place (is_of p n) t.properties) where
  by_place : (b : Bool) → HasSame t (if b then t else record t { properties = t.properties ++ place (definition p n []) ∷ [] })
  by_place true = refl
  by_place false = refl
unmade-same false p n t = refl

node-same : (first : Bool) (p : Path) (t u : DtcTree) → made_node first p t ≡ Ok u → HasSame t u
node-same true p t u e =
    let w = record t { nodes = t.nodes ++ row p ∷ [] } in
    same-done w u (not-refused (node_stands p t) DuplicateInBody (Ok w) u e)
node-same false p t u e =
    let w = record t { nodes = put_in_place (same_path p) p t.nodes } in
    same-done w u (not-refused (has_two_places (same_path p) t.nodes) DuplicateInBody (Ok w) u e)

removed-same : (first : Bool) (p : Path) (t u : DtcTree) → unmade_node first p t ≡ Ok u → HasSame t u
removed-same true p t u e =
    let w = record t { nodes = t.nodes ++ place p ∷ [] } in
    same-done w u (not-refused (node_stands p t) DuplicateInBody (Ok w) u e)
removed-same false p t u e = by_places (has_two_places (same_path p) t.nodes) e where
  by_places : (b : Bool) → Ok (if b then t else without_all_within p t) ≡ done u → HasSame t u
  by_places true e = same-done t u e
  by_places false e = same-done (without_all_within p t) u e

begun-same : (first omitted : Bool) (ls : List (List ℕ)) (p : Path) (t u : DtcTree) → begun_node first omitted ls p t ≡ Ok u → HasSame t u
begun-same first omitted ls p t u e =
    let given : DtcTree → Result DtcTree Fault = λ v. Ok (with_labels_at (given_in_turn first ls) p (with_mark (omitted && first) p v)) in
    let a = did (made_node first p t) given u (not-refused (nat_lt 64 (length p)) TooDeep (then_do (made_node first p t) given) u e) in
    let v = with_mark (omitted && first) p a.0 in
    same-done (with_labels_at (given_in_turn first ls) p v) u a.2 ∙ labels-same (given_in_turn first ls) p v ∙ node-same first p t a.0 a.1

mutual
  entry-same : (s : Entry (List Piece)) (first : Bool) (p : Path) (t u : DtcTree) → dtc_entry s first p t ≡ Ok u → HasSame t u
  entry-same (Defines n v) first p t u e = property-same first p n v t u e
  entry-same (Undefines n) first p t u e = same-done (unmade_property first p n t) u e ∙ unmade-same first p n t
  entry-same (Removes n) first p t u e = removed-same first (p ++ n ∷ []) t u e
  entry-same (Child omitted ls n body) first p t u e =
      let q = p ++ n ∷ [] in
      let inner = is_first first q t in
      let a = did (begun_node inner omitted ls q t) (dtc_body body inner q) u e in
      body-same body inner q a.0 u a.2 ∙ begun-same inner omitted ls q t a.0 a.1

  body-same : (b : Body (List Piece)) (first : Bool) (p : Path) (t u : DtcTree) → dtc_body b first p t ≡ Ok u → HasSame t u
  body-same Done first p t u e = same-done t u e
  body-same (Then s others) first p t u e =
      let a = did (dtc_entry s first p t) (dtc_body others first p) u e in
      body-same others first p a.0 u a.2 ∙ entry-same s first p t a.0 a.1

pub root-same : (t : DtcTree) → HasSame t (with_root t)
root-same t = by_place (node_has_place [] t) where
  by_place : (b : Bool) → HasSame t (if b then t else record t { nodes = t.nodes ++ row [] ∷ [] })
  by_place true = refl
  by_place false = refl

fragment-one : (target : Target) (body : Body (List Piece)) (f : List ℕ) (t u : DtcTree) → dtc_fragment target body f t ≡ Ok u → u.fragments ≡ t.fragments + 1
fragment-one target body f t u e =
    let q = f ∷ overlay_name ∷ [] in
    let s = record t { fragments = t.fragments + 1 } in
    let last : DtcTree → Result DtcTree Fault = λ v. then_do (made_node true q v) (dtc_body body true q) in
    let said : DtcTree → Result DtcTree Fault = λ v. then_do (made_property true (f ∷ []) (target_name target) (target_value target) v) last in
    let a = did (made_node true (f ∷ []) s) said u (not-refused (node_has_place (f ∷ []) t) DuplicateInBody (then_do (made_node true (f ∷ []) s) said) u e) in
    let b = did (made_property true (f ∷ []) (target_name target) (target_value target) a.0) last u a.2 in
    let c = did (made_node true q b.0) (dtc_body body true q) u b.2 in
    body-same body true q c.0 u c.2 ∙ node-same true q b.0 c.0 c.1 ∙ property-same true (f ∷ []) (target_name target) (target_value target) a.0 b.0 b.1 ∙ node-same true (f ∷ []) s a.0 a.1

-- an item makes at most as many fragments as it has extensions
pub item-counts : (plugin : Bool) (i : Edit) (t u : DtcTree) → dtc_item plugin i t ≡ Ok u → u.fragments ≤ t.fragments + length (target_values i)
item-counts plugin (Rooted body) t u e = omega (arith, body-same body (not (node_has_place [] t)) [] (with_root t) u e, root-same t)
item-counts plugin (Deletes target) t u e =
    let a = did-at (named_node target t) (λ p. if same_path p [] then Err ReservedName else Ok (without_all_within p t)) u e in
    omega (arith, same-done (without_all_within a.0 t) u (not-refused (same_path a.0 []) ReservedName (Ok (without_all_within a.0 t)) u a.1))
item-counts plugin (Omits target) t u e =
    let a = did-at (named_node target t) (λ p. Ok (with_mark true p t)) u e in
    omega (arith, same-done (with_mark true a.0 t) u a.1)
item-counts plugin (Extends ls target body) t u e = by_kind (begins_fragment plugin ls target t) e where
  by_kind : (b : Bool) → (if b then dtc_fragment target body (fragment_name t.fragments) (with_root t) else then_do (named_node target t) (λ p. dtc_body body false p (with_labels_at ls p t))) ≡ Ok u
      → u.fragments ≤ t.fragments + 1
  by_kind true e = omega (arith, fragment-one target body (fragment_name t.fragments) (with_root t) u e, root-same t)
  by_kind false e =
      let a = did-at (named_node target t) (λ p. dtc_body body false p (with_labels_at ls p t)) u e in
      omega (arith, body-same body false a.0 (with_labels_at ls a.0 t) u a.1, labels-same ls a.0 t)

-- ---- items so far
-- some items lead to the tree
abbrev pub IsReached : Bool → DtcTree → Type 0
IsReached plugin t = (before : List Edit) × (dtc_items plugin before nothing ≡ Ok t)

items-append : (plugin : Bool) (xs ys : List Edit) (t : DtcTree) → dtc_items plugin (xs ++ ys) t ≡ then_do (dtc_items plugin xs t) (dtc_items plugin ys)
items-append plugin [] ys t = refl
items-append plugin (x ∷ xs) ys t = by_first (dtc_item plugin x t) (items-append plugin xs ys) where
  by_first : (r : Result DtcTree Fault) → ((a : DtcTree) → dtc_items plugin (xs ++ ys) a ≡ then_do (dtc_items plugin xs a) (dtc_items plugin ys))
      → then_do r (dtc_items plugin (xs ++ ys)) ≡ then_do (then_do r (dtc_items plugin xs)) (dtc_items plugin ys)
  by_first (Ok a) h = h a
  by_first (Err f) h = refl

pub reached-next : (plugin : Bool) (i : Edit) (t u : DtcTree) → IsReached plugin t → dtc_item plugin i t ≡ Ok u → IsReached plugin u
reached-next plugin i t u at e = (
  at.0 ++ i ∷ [],
  items-append plugin at.0 (i ∷ []) nothing ∙ ap (λ r. then_do r (dtc_items plugin (i ∷ []))) at.1 ∙ ap (λ r. then_do r (dtc_items plugin [])) e,
)

pub items-next : (plugin : Bool) (i : Edit) (left : List Edit) (t u : DtcTree) (all : Result DtcTree Fault) → dtc_items plugin (i ∷ left) t ≡ all → dtc_item plugin i t ≡ Ok u → dtc_items plugin left u ≡ all
items-next plugin i left t u all so_far e = sym (ap (λ r. then_do r (dtc_items plugin left)) e) ∙ so_far

-- an extension that makes a fragment
pub item-begins : (plugin : Bool) (ls : List (List ℕ)) (target : Target) (body : Body (List Piece)) (t : DtcTree) (name : List ℕ) → begins_fragment plugin ls target t ≡ true → name ≡ fragment_name t.fragments
    → dtc_item plugin (Extends ls target body) t ≡ dtc_fragment target body name (with_root t)
item-begins plugin ls target body t name begins named =
    ap (λ b. if b then dtc_fragment target body (fragment_name t.fragments) (with_root t) else then_do (named_node target t) (λ p. dtc_body body false p (with_labels_at ls p t))) begins
    ∙ ap (λ n. dtc_fragment target body n (with_root t)) (sym named)

-- no node that stands is too deep: labels don't matter for it
below-shallow : (plugin : Bool) (is : List Edit) (u : DtcTree) → dtc_items plugin is nothing ≡ Ok u → list_any is_too_deep (all_below u) ≡ false
below-shallow plugin is u e =
    let k = any-sound plugin is u e in
    (state-sound IsAny (record u { labels = [] }) (record {
      stand = record {
        paths = k.stand.paths;
        apart = k.stand.apart;
        above = k.stand.above;
        owners = k.stand.owners;
        names = k.stand.names;
        keys = k.stand.keys;
        labelled = tt;
        words = tt;
      };
      root = k.root;
    }) refl).shallow

pub reached-shallow : (plugin : Bool) (d : PlacedTree Parts) → IsPlacedTree d → IsReached plugin (placed_of d) → IsShallow d
reached-shallow plugin d sound at =
    ap (list_any is_too_deep) (sym (below-standing (rows_in d.nodes) sound.tables.grown d.begun)) ∙ below-shallow plugin at.0 (placed_of d) at.1
