-- Where a source is at fault whose edits are refused, in bytes of its text (Devicetree Specification v0.4, sections 6.3 and 6.4;
-- fragments by dt-object-internal, section 3): at the first statement in the order of the text that the meaning refuses and, where a
-- node is refused for its body, at the statement in the body. A statement is where its name begins, behind its labels; an item that
-- names a node is where its reference is.
use Rattle.std.specs.Prelude.{◌≡◌, ◌≢◌, ℕ, Bool, List, [], ◌∷◌, ◌++◌, map, Option, None, Some, Result, Ok, Err, IfErr, if◌then◌else◌}
use Rattle.dt_source.specs.declared.labels.Labels.{Labels}
use Rattle.dt_source.specs.declared.tree.Item.{Item}
use Rattle.dt_source.specs.declared.tree.Item.TheVariants as items
use Rattle.dt_source.specs.declared.tree.Reference.{Reference}
use Rattle.dt_source.specs.declared.tree.Source.{Source}
use Rattle.dt_source.specs.declared.tree.Statement.{Statement}
use Rattle.dt_source.specs.declared.tree.Statement.TheOpen.{Statement-F, Property, DeleteProperty, Node, DeleteNode}
use Rattle.dt_source.specs.declared.tree.Statement.TheFolds.{fold-Statement}
use Rattle.dt_source.specs.Tree.{item_view, labels_view, reference_at, target_view, views}
use Rattle.dt_source.specs.TreeMeaning.Names.{fragment_name, overlay_name}
use Rattle.dt_source.specs.TreeMeaning.Paths.{Path, is_listed}
use Rattle.dt_source.specs.TreeMeaning.Syntax.{Piece, Entry, Defines, Undefines, Child, Removes, Body, Done, Then}
use Rattle.dt_source.specs.TreeMeaning.Edits.{State, empty}
use Rattle.dt_source.specs.TreeMeaning.Statements.{Fault, Progress, after_entry, after_item, begun, found, give_labels, makes_fragment, with_fragment}
use Rattle.dt_build.specs.declared.edit.error.EditError.{EditError}
use Rattle.dt_build.specs.declared.edit.error.EditErrorKind.TheVariants.{NoMemory}
use Rattle.dt_build.specs.Edit.Admitted.{admitted}

-- ---- where statements are
-- where the name of a statement begins, and those of the statements in its body
mutual
  pub data Spot : Type 0 where
    Spotted : (at : ℕ) (inner : Spots) → Spot

  pub data Spots : Type 0 where
    Nowhere : Spots
    Before : (first : Spot) (others : Spots) → Spots

abbrev pub spots_of : List Spot → Spots
spots_of [] = Nowhere
spots_of (i ∷ is) = Before i (spots_of is)

abbrev pub spot_step : Statement-F Spot → Spot
spot_step (Property name value) = Spotted value.at Nowhere
spot_step (DeleteProperty at name) = Spotted at Nowhere
spot_step (Node omit_if_no_ref at labels name body) = Spotted at (spots_of body.items)
spot_step (DeleteNode at name) = Spotted at Nowhere

abbrev pub spot : Statement → Spot
spot = fold-Statement Spot spot_step

abbrev pub spots : List Statement → Spots
spots ss = spots_of (map spot ss)

-- ---- statements
-- the place of a step that is refused, or that of what follows it
abbrev pub refused_at : {A : Type 0} → Result A Fault → Option ℕ → (A → Option ℕ) → Option ℕ
refused_at (Ok a) here next = next a
refused_at (Err f) here next = here

abbrev mutual
  -- the place of a statement that is refused: a node that is let in is refused for its body
  pub entry_place : Entry (List Piece) → Spot → Path → Progress (List Piece) → Option ℕ
  entry_place (Defines n v) (Spotted at inner) p x = Some at
  entry_place (Undefines n) (Spotted at inner) p x = Some at
  entry_place (Removes n) (Spotted at inner) p x = Some at
  entry_place (Child omitted ls n body) (Spotted at inner) p x =
      refused_at (admitted ls n p x) (Some at) (λ s. body_place body inner (p ++ n ∷ []) (begun s))

  -- the place of the first statement of a body that is refused
  pub body_place : Body (List Piece) → Spots → Path → Progress (List Piece) → Option ℕ
  body_place Done is p x = None
  body_place (Then e others) Nowhere p x = None
  body_place (Then e others) (Before i is) p x = refused_at (after_entry e p x) (entry_place e i p x) (body_place others is p)

-- the same of what the text says, in the node at p
abbrev pub place_in : List Statement → Path → State (List Piece) → Option ℕ
place_in ss p s = body_place (views ss) (spots ss) p (begun s)

-- ---- items
abbrev pub fragment_place : Reference → List Statement → List ℕ → State (List Piece) → Option ℕ
fragment_place target ss f s =
    if is_listed (f ∷ []) s.nodes then Some (reference_at target)
    else place_in ss (f ∷ overlay_name ∷ []) (with_fragment f (target_view target) s)

abbrev pub extension_place : Labels → Reference → List Statement → State (List Piece) → Option ℕ
extension_place labels target ss s =
    refused_at (found (target_view target) s) (Some (reference_at target)) (λ p.
    refused_at (give_labels (labels_view labels) p s) (Some (reference_at target)) (place_in ss p))

-- the place of an item that is refused
abbrev pub item_place : Bool → Item → State (List Piece) → Option ℕ
item_place plugin (items.Root at body) s = place_in body.items [] s
item_place plugin (items.Delete target) s = Some (reference_at target)
item_place plugin (items.Omit target) s = Some (reference_at target)
item_place plugin (items.Extend labels target body) s =
    if makes_fragment plugin (labels_view labels) (target_view target) s then fragment_place target body.items (fragment_name s.fragments) s
    else extension_place labels target body.items s

-- the place of the first item that is refused
abbrev pub items_place : Bool → List Item → State (List Piece) → Option ℕ
items_place plugin [] s = None
items_place plugin (i ∷ is) s = refused_at (after_item plugin (item_view i) s) (item_place plugin i s) (items_place plugin is)

-- the place at which the edits of a source are at fault
abbrev pub edit_place : Source → Option ℕ
edit_place source = items_place source.plugin source.items.items empty

-- ---- what an error tells
-- where it stands is this place; want of memory has none
abbrev pub IsPlaced : {A : Type 0} → Option ℕ → Result A EditError → Type 0
IsPlaced place result = IfErr result (λ e. e.kind ≢ NoMemory → Some e.at ≡ place)
