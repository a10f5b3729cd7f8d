-- What the items and statements of a source do to the tree in dtc's language, in order, or the first fault (Devicetree Specification
-- v0.4, sections 6.3 and 6.4; fragments by dt-object-internal, section 3).
use Rattle.std.specs.Prelude.{ℕ, ◌+◌, Bool, true, false, not, ◌||◌, ◌&&◌, List, [], ◌∷◌, ◌++◌, length, reverse, is_ok, Result, Ok, Err, if◌then◌else◌, nat_lt}
use Rattle.std.specs.List.{filter, flat_map, list_any}
use Rattle.std.specs.Str.{bytes_eq}
use Rattle.dt_tree.specs.Steps.{then_do}
use Rattle.dt_source.specs.TreeMeaning.Names.{fragment_name, overlay_name}
use Rattle.dt_source.specs.TreeMeaning.Paths.{Path, same_path}
use Rattle.dt_source.specs.TreeMeaning.Syntax.{Target, OfLabel, OfPath, Piece, Entry, Defines, Undefines, Child, Removes, Body, Done, Then, Edit, Rooted, Extends, Deletes, Omits, Meaning}
use Rattle.dt_source.specs.TreeMeaning.Edits.{Label, State}
use Rattle.dt_source.specs.TreeMeaning.Statements.{Fault, DuplicateInBody, DuplicateLabel, ReservedName, TooDeep, target_name, target_value}
use Rattle.dt_source.specs.TreeMeaning.Places.{row, what_stands}
use Rattle.dt_source.specs.TreeMeaning.DtcEdits.{DtcTree, nothing, node_has_place, made_property, unmade_property, made_node, unmade_node, without_all_within, with_labels_at, given_in_turn, with_mark, all_below, in_preorder, named_node}

-- ---- statements
-- the body of a child is the first of its node where no row has its path, and where the body around it is the first of its own
abbrev pub is_first : (first : Bool) → Path → DtcTree → Bool
is_first first p t = first || not (node_has_place p t)

-- a node is made or merged, with its labels; `/omit-if-no-ref/` counts where it is made
abbrev pub begun_node : (first : Bool) → (omitted : Bool) → List (List ℕ) → Path → DtcTree → Result DtcTree Fault
begun_node first omitted ls p t =
    if nat_lt 64 (length p) then Err TooDeep
    else then_do (made_node first p t) (λ u. Ok (with_labels_at (given_in_turn first ls) p (with_mark (omitted && first) p u)))

abbrev mutual
  -- one statement of a body of the node at p
  pub dtc_entry : Entry (List Piece) → (first : Bool) → Path → DtcTree → Result DtcTree Fault
  dtc_entry (Defines n v) first p t = made_property first p n v t
  dtc_entry (Undefines n) first p t = Ok (unmade_property first p n t)
  dtc_entry (Removes n) first p t = unmade_node first (p ++ n ∷ []) t
  dtc_entry (Child omitted ls n body) first p t =
      let q = p ++ n ∷ [] in
      let inner = is_first first q t in
      then_do (begun_node inner omitted ls q t) (dtc_body body inner q)

  -- the statements of a body of the node at p
  pub dtc_body : Body (List Piece) → (first : Bool) → Path → DtcTree → Result DtcTree Fault
  dtc_body Done first p t = Ok t
  dtc_body (Then e others) first p t = then_do (dtc_entry e first p t) (dtc_body others first p)

-- ---- items
-- the first item makes the root
abbrev pub with_root : DtcTree → DtcTree
with_root t = if node_has_place [] t then t else record t { nodes = t.nodes ++ row [] ∷ [] }

-- a fragment goes behind all that stands; its body is the first of its `__overlay__`
abbrev pub dtc_fragment : Target → Body (List Piece) → List ℕ → DtcTree → Result DtcTree Fault
dtc_fragment target body f t =
    if node_has_place (f ∷ []) t then Err DuplicateInBody
    else then_do (made_node true (f ∷ []) (record t { fragments = t.fragments + 1 })) (λ u.
    then_do (made_property true (f ∷ []) (target_name target) (target_value target) u) (λ v.
    then_do (made_node true (f ∷ overlay_name ∷ []) v) (dtc_body body true (f ∷ overlay_name ∷ []))))

-- an extension of a plugin without labels, by a path or by a label that no node has
abbrev pub begins_fragment : Bool → List (List ℕ) → Target → DtcTree → Bool
begins_fragment false ls target t = false
begins_fragment true (l ∷ ls) target t = false
begins_fragment true [] (OfPath s) t = true
begins_fragment true [] (OfLabel l) t = not (is_ok (named_node (OfLabel l) t))

abbrev pub dtc_item : Bool → Edit → DtcTree → Result DtcTree Fault
dtc_item plugin (Rooted body) t = dtc_body body (not (node_has_place [] t)) [] (with_root t)
dtc_item plugin (Deletes target) t = then_do (named_node target t) (λ p. if same_path p [] then Err ReservedName else Ok (without_all_within p t))
dtc_item plugin (Omits target) t = then_do (named_node target t) (λ p. Ok (with_mark true p t))
dtc_item plugin (Extends ls target body) t =
    if begins_fragment plugin ls target t then dtc_fragment target body (fragment_name t.fragments) (with_root t)
    else then_do (named_node target t) (λ p. dtc_body body false p (with_labels_at ls p t))

abbrev pub dtc_items : Bool → List Edit → DtcTree → Result DtcTree Fault
dtc_items plugin [] t = Ok t
dtc_items plugin (i ∷ is) t = then_do (dtc_item plugin i t) (dtc_items plugin is)

-- ---- when all is read
abbrev pub same_label : Label → Label → Bool
same_label x y = bytes_eq x.label y.label

abbrev pub label_twice : List Label → Bool
label_twice [] = false
label_twice (x ∷ xs) = list_any (same_label x) xs || label_twice xs

-- no label stands at two nodes
abbrev pub with_labels_once : DtcTree → Result DtcTree Fault
with_labels_once t = if label_twice (what_stands t.labels) then Err DuplicateLabel else Ok t

abbrev pub dtc_edited : Meaning → Result DtcTree Fault
dtc_edited m = then_do (dtc_items m.plugin m.items nothing) with_labels_once

-- node by node, a node's last label first
abbrev pub dtc_labels : DtcTree → List Label
dtc_labels t = flat_map (λ p. filter (λ l. same_path p l.path) (reverse (what_stands t.labels))) (in_preorder t)

-- the tree that stands
abbrev pub dtc_state : DtcTree → State (List Piece)
dtc_state t = record { nodes = all_below t; properties = what_stands t.properties; labels = dtc_labels t; fragments = t.fragments }
