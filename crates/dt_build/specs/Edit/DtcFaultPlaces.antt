-- Where a source in dtc's language is at fault whose edits are refused, in bytes of its text (Devicetree Specification v0.4, sections
-- 6.3 and 6.4; fragments by dt-object-internal, section 3): as in `FaultPlaces`, by what the edits mean in dtc's language. Of a label
-- at two nodes, which is a fault once all is read, it says nothing.
use Rattle.std.specs.Prelude.{◌≡◌, ◌≢◌, ℕ, ◌+◌, Bool, true, false, not, List, [], ◌∷◌, ◌++◌, Option, None, Some, Result, Err, IfErr, if◌then◌else◌}
use Rattle.dt_source.specs.declared.labels.Labels.{Labels}
use Rattle.dt_source.specs.declared.tree.Item.{Item}
use Rattle.dt_source.specs.declared.tree.Item.TheVariants as items
use Rattle.dt_source.specs.declared.tree.Reference.{Reference}
use Rattle.dt_source.specs.declared.tree.Source.{Source}
use Rattle.dt_source.specs.declared.tree.Statement.{Statement}
use Rattle.dt_source.specs.Meaning.{meaning_of}
use Rattle.dt_source.specs.Tree.{item_view, labels_view, reference_at, target_view, views}
use Rattle.dt_source.specs.TreeMeaning.Names.{fragment_name, overlay_name}
use Rattle.dt_source.specs.TreeMeaning.Paths.{Path}
use Rattle.dt_source.specs.TreeMeaning.Syntax.{Piece, Entry, Defines, Undefines, Child, Removes, Body, Done, Then}
use Rattle.dt_source.specs.TreeMeaning.Statements.{Fault, target_name, target_value}
use Rattle.dt_source.specs.TreeMeaning.DtcEdits.{DtcTree, made_node, made_property, named_node, node_has_place, nothing, with_labels_at}
use Rattle.dt_source.specs.TreeMeaning.DtcStatements.{begins_fragment, begun_node, dtc_entry, dtc_item, dtc_items, is_first, with_root}
use Rattle.dt_build.specs.declared.edit.error.EditError.{EditError}
use Rattle.dt_build.specs.declared.edit.error.EditErrorKind.TheVariants.{NoMemory}
use Rattle.dt_build.specs.Edit.FaultPlaces.{Spot, Spots, Spotted, Nowhere, Before, refused_at, spots}

-- ---- statements
abbrev mutual
  -- the place of a statement that is refused: a node that is made or merged is refused for its body
  pub dtc_entry_place : Entry (List Piece) → Spot → (first : Bool) → Path → DtcTree → Option ℕ
  dtc_entry_place (Defines n v) (Spotted at inner) first p t = Some at
  dtc_entry_place (Undefines n) (Spotted at inner) first p t = Some at
  dtc_entry_place (Removes n) (Spotted at inner) first p t = Some at
  dtc_entry_place (Child omitted ls n body) (Spotted at inner) first p t =
      let q = p ++ n ∷ [] in
      let begins = is_first first q t in
      refused_at (begun_node begins omitted ls q t) (Some at) (dtc_body_place body inner begins q)

  -- the place of the first statement of a body that is refused
  pub dtc_body_place : Body (List Piece) → Spots → (first : Bool) → Path → DtcTree → Option ℕ
  dtc_body_place Done is first p t = None
  dtc_body_place (Then e others) Nowhere first p t = None
  dtc_body_place (Then e others) (Before i is) first p t =
      refused_at (dtc_entry e first p t) (dtc_entry_place e i first p t) (dtc_body_place others is first p)

-- the same of what the text says, in the node at p
abbrev pub dtc_place_in : List Statement → (first : Bool) → Path → DtcTree → Option ℕ
dtc_place_in ss first p t = dtc_body_place (views ss) (spots ss) first p t

-- ---- items
-- a fragment and its `__overlay__` are made before its body runs
abbrev pub dtc_fragment_place : Reference → List Statement → List ℕ → DtcTree → Option ℕ
dtc_fragment_place target ss f t =
    let here = Some (reference_at target) in
    if node_has_place (f ∷ []) t then here
    else refused_at (made_node true (f ∷ []) (record t { fragments = t.fragments + 1 })) here (λ u.
    refused_at (made_property true (f ∷ []) (target_name (target_view target)) (target_value (target_view target)) u) here (λ v.
    refused_at (made_node true (f ∷ overlay_name ∷ []) v) here (dtc_place_in ss true (f ∷ overlay_name ∷ []))))

abbrev pub dtc_extension_place : Labels → Reference → List Statement → DtcTree → Option ℕ
dtc_extension_place labels target ss t =
    refused_at (named_node (target_view target) t) (Some (reference_at target)) (λ p. dtc_place_in ss false p (with_labels_at (labels_view labels) p t))

-- the place of an item that is refused
abbrev pub dtc_item_place : Bool → Item → DtcTree → Option ℕ
dtc_item_place plugin (items.Root at body) t = dtc_place_in body.items (not (node_has_place [] t)) [] (with_root t)
dtc_item_place plugin (items.Delete target) t = Some (reference_at target)
dtc_item_place plugin (items.Omit target) t = Some (reference_at target)
dtc_item_place plugin (items.Extend labels target body) t =
    if begins_fragment plugin (labels_view labels) (target_view target) t then dtc_fragment_place target body.items (fragment_name t.fragments) (with_root t)
    else dtc_extension_place labels target body.items t

-- the place of the first item that is refused
abbrev pub dtc_items_place : Bool → List Item → DtcTree → Option ℕ
dtc_items_place plugin [] t = None
dtc_items_place plugin (i ∷ is) t = refused_at (dtc_item plugin (item_view i) t) (dtc_item_place plugin i t) (dtc_items_place plugin is)

-- the place at which the edits of a source are at fault
abbrev pub dtc_edit_place : Source → Option ℕ
dtc_edit_place source = dtc_items_place source.plugin source.items.items nothing

-- ---- what an error tells
-- where an item is refused, where the error stands is the place of that
abbrev pub IsDtcPlaced : {A : Type 0} → Source → Result A EditError → Type 0
IsDtcPlaced source result =
    let m = meaning_of source in
    IfErr result (λ e. e.kind ≢ NoMemory → (f : Fault) → dtc_items m.plugin m.items nothing ≡ Err f → Some e.at ≡ dtc_edit_place source)
