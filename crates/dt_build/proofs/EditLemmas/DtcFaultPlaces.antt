-- Where a source in dtc's language is at fault whose edits are refused.
use Rattle.std.proofs.Common.{◌≡◌, ◌≢◌, ℕ, ◌<◌, ◌≤◌, Bool, true, false, ◌&&◌, List, [], ◌∷◌, length, map, Option, Some, Result, Ok, Err, Vec, Global, if◌then◌else◌, refl, sym, ap, ap₂, ◌∙◌}
use Rattle.std.proofs.lemmas.Bool.{le-ltb, lt-ltb}
use Rattle.dt_tree.specs.Steps.{then_do}
use Rattle.dt_source.specs.declared.labels.Labels.{Labels}
use Rattle.dt_source.specs.declared.tree.Item.{Item}
use Rattle.dt_source.specs.declared.tree.Item.TheVariants as items
use Rattle.dt_source.specs.declared.tree.Reference.{Reference}
use Rattle.dt_source.specs.declared.tree.Source.{Source}
use Rattle.dt_source.specs.declared.tree.Statement.{Statement}
use Rattle.dt_source.specs.Tree.{item_view, labels_view, reference_at, target_view, view}
use Rattle.dt_source.specs.TreeMeaning.Names.{fragment_name, overlay_name}
use Rattle.dt_source.specs.TreeMeaning.Paths.{Path}
use Rattle.dt_source.specs.TreeMeaning.Syntax.{Piece, Body}
use Rattle.dt_source.specs.TreeMeaning.Statements.{Fault, DuplicateInBody, TooDeep, target_name, target_value}
use Rattle.dt_source.specs.TreeMeaning.DtcEdits.{DtcTree, given_in_turn, made_node, made_property, named_node, node_has_place, nothing, with_labels_at, with_mark}
use Rattle.dt_source.specs.TreeMeaning.DtcStatements.{begins_fragment, begun_node, dtc_entry, dtc_item, dtc_items, with_root}
use Rattle.dt_live.specs.Placed.PlacedEdits.{counted_fragment}
use Rattle.dt_build.specs.declared.edit.error.EditError.{EditError}
use Rattle.dt_build.specs.declared.edit.error.EditErrorKind.{EditErrorKind}
use Rattle.dt_build.specs.declared.edit.error.EditErrorKind.TheVariants.{NoMemory}
use Rattle.dt_build.specs.Edit.EditFault.{IsFault}
use Rattle.dt_build.specs.Edit.FaultPlaces.{Spots, refused_at, spot}
use Rattle.dt_build.specs.Edit.DtcFaultPlaces.{IsDtcPlaced, dtc_body_place, dtc_entry_place, dtc_extension_place, dtc_fragment_place, dtc_item_place, dtc_items_place, dtc_place_in}
use Rattle.dt_build.specs.Edit.Private.DtcEdited.{fragment_begun}
use Rattle.dt_build.proofs.EditLemmas.FaultPlaces.{refused-behind, refused-here}
use Rattle.dt_build.proofs.EditLemmas.Faults.{fault-same, fault-then}

-- ---- one statement behind another
module _ (s : Statement) (rest : List Statement) (first : Bool) (p q : Path) (t : DtcTree) (all : Option ℕ) (same : q ≡ p)
    (left : dtc_place_in (s ∷ rest) first p t ≡ all) where
  left-at : refused_at (dtc_entry (view s) first q t) (dtc_entry_place (view s) (spot s) first q t) (dtc_place_in rest first p) ≡ all
  left-at = ap (λ r. refused_at (dtc_entry (view s) first r t) (dtc_entry_place (view s) (spot s) first r t) (dtc_place_in rest first p)) same ∙ left

  pub place-goes-on : (u : DtcTree) → dtc_entry (view s) first q t ≡ Ok u → dtc_place_in rest first p u ≡ all
  place-goes-on u step = sym (refused-behind (dtc_entry (view s) first q t) u (dtc_entry_place (view s) (spot s) first q t) (dtc_place_in rest first p) step) ∙ left-at

  pub place-stops : (k : EditErrorKind) → k ≢ NoMemory → IsFault k (dtc_entry (view s) first q t) → dtc_entry_place (view s) (spot s) first q t ≡ all
  place-stops k some fault = sym (refused-here k (dtc_entry (view s) first q t) (dtc_entry_place (view s) (spot s) first q t) (dtc_place_in rest first p) some fault) ∙ left-at

-- ---- a child
module _ (inner omitted : Bool) (ls : List (List ℕ)) (q : Path) (t : DtcTree) (body : Body (List Piece)) (at : ℕ) (is : Spots) where
  abbrev pub child_place : Option ℕ
  child_place = refused_at (begun_node inner omitted ls q t) (Some at) (dtc_body_place body is inner q)

  abbrev dressed : DtcTree → Result DtcTree Fault
  dressed u = Ok (with_labels_at (given_in_turn inner ls) q (with_mark (omitted && inner) q u))

  pub place-of-deep : 64 < length q → Some at ≡ child_place
  place-of-deep deep =
      sym (ap (λ b. refused_at (if b then Err TooDeep else then_do (made_node inner q t) dressed) (Some at) (dtc_body_place body is inner q)) (lt-ltb 64 (length q) deep))

  shallow : length q ≤ 64 → begun_node inner omitted ls q t ≡ then_do (made_node inner q t) dressed
  shallow le = ap (λ b. if b then Err TooDeep else then_do (made_node inner q t) dressed) (le-ltb 64 (length q) le)

  pub place-of-refused : length q ≤ 64 → (k : EditErrorKind) → k ≢ NoMemory → IsFault k (made_node inner q t) → Some at ≡ child_place
  place-of-refused le k some fault =
      sym (refused-here k (begun_node inner omitted ls q t) (Some at) (dtc_body_place body is inner q) some
      (fault-same k (then_do (made_node inner q t) dressed) (begun_node inner omitted ls q t) (shallow le) (fault-then k (made_node inner q t) dressed fault)))

  -- the body runs over the child as it is made, marked and labelled
  pub place-inside : length q ≤ 64 → (begins : Bool) → begins ≡ inner → (u v : DtcTree) → made_node inner q t ≡ Ok u → (r : Path) → r ≡ q → v ≡ with_labels_at (given_in_turn begins ls) r (with_mark (omitted && begins) r u)
      → (r' : Path) → r' ≡ q → dtc_body_place body is begins r' v ≡ child_place
  place-inside le begins same u v made r one dressed_so r' two = sym (
      ap (λ m. refused_at m (Some at) (dtc_body_place body is inner q)) (shallow le ∙ ap (λ m. then_do m dressed) made)
      ∙ ap₂ (λ b p. dtc_body_place body is inner q (with_labels_at (given_in_turn b ls) p (with_mark (omitted && b) p u))) (sym same) (sym one)
      ∙ ap (λ x. dtc_body_place body is inner q x) (sym dressed_so)
      ∙ ap₂ (λ b p. dtc_body_place body is b p v) (sym same) (sym two))

-- ---- a fragment
module _ (target : Reference) (ss : List Statement) (f : List ℕ) (t : DtcTree) where
  abbrev here : Option ℕ
  here = Some (reference_at target)

  abbrev overlay : Path
  overlay = f ∷ overlay_name ∷ []

  abbrev laid : DtcTree → Option ℕ
  laid v = refused_at (made_node true overlay v) here (dtc_place_in ss true overlay)

  abbrev aimed : DtcTree → Result DtcTree Fault
  aimed u = made_property true (f ∷ []) (target_name (target_view target)) (target_value (target_view target)) u

  abbrev behind : DtcTree → Option ℕ
  behind u = refused_at (aimed u) here laid

  in-steps : dtc_fragment_place target ss f t ≡ refused_at (fragment_begun f t) here behind
  in-steps = by-place (node_has_place (f ∷ []) t) where
    by-place : (b : Bool) → (if b then here else refused_at (made_node true (f ∷ []) (counted_fragment t)) here behind)
        ≡ refused_at (if b then Err DuplicateInBody else made_node true (f ∷ []) (counted_fragment t)) here behind
    by-place true = refl
    by-place false = refl

  pub fragment-unbegun : (k : EditErrorKind) → k ≢ NoMemory → IsFault k (fragment_begun f t) → dtc_fragment_place target ss f t ≡ Some (reference_at target)
  fragment-unbegun k some fault = in-steps ∙ refused-here k (fragment_begun f t) here behind some fault

  module _ (u : DtcTree) (begun : fragment_begun f t ≡ Ok u) (p : Path) (n : List ℕ) (value : List Piece) (at : p ≡ f ∷ []) (named : n ≡ target_name (target_view target)) (valued : value ≡ target_value (target_view target)) where
    aimed-is : aimed u ≡ made_property true p n value u
    aimed-is = ap (λ q. made_property true q (target_name (target_view target)) (target_value (target_view target)) u) (sym at) ∙ ap₂ (λ m w. made_property true p m w u) (sym named) (sym valued)

    begun-steps : dtc_fragment_place target ss f t ≡ refused_at (aimed u) here laid
    begun-steps = in-steps ∙ refused-behind (fragment_begun f t) u here behind begun

    pub fragment-unaimed : (k : EditErrorKind) → k ≢ NoMemory → IsFault k (made_property true p n value u) → dtc_fragment_place target ss f t ≡ Some (reference_at target)
    fragment-unaimed k some fault = begun-steps ∙ refused-here k (aimed u) here laid some (fault-same k (made_property true p n value u) (aimed u) aimed-is fault)

    module _ (v : DtcTree) (made : made_property true p n value u ≡ Ok v) (q : Path) (at' : q ≡ f ∷ overlay_name ∷ []) where
      aimed-steps : dtc_fragment_place target ss f t ≡ laid v
      aimed-steps = begun-steps ∙ refused-behind (aimed u) v here laid (aimed-is ∙ made)

      pub fragment-unlaid : (k : EditErrorKind) → k ≢ NoMemory → IsFault k (made_node true q v) → dtc_fragment_place target ss f t ≡ Some (reference_at target)
      fragment-unlaid k some fault =
          aimed-steps ∙ refused-here k (made_node true overlay v) here (dtc_place_in ss true overlay) some
          (fault-same k (made_node true q v) (made_node true overlay v) (ap (λ r. made_node true r v) (sym at')) fault)

      pub fragment-inside : (w : DtcTree) → made_node true q v ≡ Ok w → (r : Path) → r ≡ f ∷ overlay_name ∷ [] → dtc_place_in ss true r w ≡ dtc_fragment_place target ss f t
      fragment-inside w done r at'' =
          ap (λ x. dtc_place_in ss true x w) at''
          ∙ sym (aimed-steps ∙ refused-behind (made_node true overlay v) w here (dtc_place_in ss true overlay) (ap (λ x. made_node true x v) (sym at') ∙ done))

-- ---- an extension of a node that stands
module _ (labels : Labels) (target : Reference) (ss : List Statement) (t : DtcTree) where
  abbrev within : Path → Option ℕ
  within p = dtc_place_in ss false p (with_labels_at (labels_view labels) p t)

  pub extension-unknown : (k : EditErrorKind) → k ≢ NoMemory → IsFault k (named_node (target_view target) t) → dtc_extension_place labels target ss t ≡ Some (reference_at target)
  extension-unknown k some fault = refused-here k (named_node (target_view target) t) (Some (reference_at target)) within some fault

  pub extension-inside : (p : Path) → named_node (target_view target) t ≡ Ok p → dtc_extension_place labels target ss t ≡ dtc_place_in ss false p (with_labels_at (labels_view labels) p t)
  extension-inside p known = refused-behind (named_node (target_view target) t) p (Some (reference_at target)) within known

-- ---- an extension is a fragment, or one of a node
module _ (plugin : Bool) (labels : Labels) (target : Reference) (body : Vec Statement Global) (t : DtcTree) where
  abbrev extension : Bool → List ℕ → Option ℕ
  extension b name = if b then dtc_fragment_place target body.items name (with_root t) else dtc_extension_place labels target body.items t

  pub place-of-fragment : (name : List ℕ) → begins_fragment plugin (labels_view labels) (target_view target) t ≡ true → name ≡ fragment_name t.fragments
      → dtc_item_place plugin (items.Extend labels target body) t ≡ dtc_fragment_place target body.items name (with_root t)
  place-of-fragment name begins named = ap (λ b. extension b (fragment_name t.fragments)) begins ∙ ap (extension true) (sym named)

  pub place-of-extension : begins_fragment plugin (labels_view labels) (target_view target) t ≡ false
      → dtc_item_place plugin (items.Extend labels target body) t ≡ dtc_extension_place labels target body.items t
  place-of-extension begins = ap (λ b. extension b (fragment_name t.fragments)) begins

-- ---- one item behind another
module _ (plugin : Bool) (i : Item) (is : List Item) (t : DtcTree) (all : Option ℕ) (left : dtc_items_place plugin (i ∷ is) t ≡ all) where
  pub items-place-goes-on : (u : DtcTree) → dtc_item plugin (item_view i) t ≡ Ok u → dtc_items_place plugin is u ≡ all
  items-place-goes-on u step = sym (refused-behind (dtc_item plugin (item_view i) t) u (dtc_item_place plugin i t) (dtc_items_place plugin is) step) ∙ left

  pub items-place-stops : (k : EditErrorKind) → k ≢ NoMemory → IsFault k (dtc_item plugin (item_view i) t) → dtc_item_place plugin i t ≡ all
  items-place-stops k some fault = sym (refused-here k (dtc_item plugin (item_view i) t) (dtc_item_place plugin i t) (dtc_items_place plugin is) some fault) ∙ left

-- ---- behind the items nothing is told
different : {A : Type 0} (t : A) (f : Fault) → Ok t ≡ Err f → ⊥
different t f e = absurd (cc)

pub behind-items : {A : Type 0} (source : Source) (r : Result A EditError) (t : DtcTree) → dtc_items source.plugin (map item_view source.items.items) nothing ≡ Ok t → IsDtcPlaced source r
behind-items source (Ok a) t done = tt
behind-items source (Err e) t done = λ some f refused. absurd (different t f (sym done ∙ refused))
