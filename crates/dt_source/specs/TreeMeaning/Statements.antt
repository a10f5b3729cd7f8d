-- Meaning of the edits: what the items and statements of a source do to the tree, in order, or the first fault
-- (Devicetree Specification v0.4, sections 6.3 and 6.4; fragments by dt-object-internal, section 3).
use Rattle.std.specs.Prelude.{ℕ, ◌+◌, Bool, true, false, not, ◌&&◌, List, [], ◌∷◌, ◌++◌, length, Option, Some, None, is_some, Result, Ok, Err, if◌then◌else◌, nat_lt, codes, ok_or}
use Rattle.dt_tree.specs.Steps.{then_do}
use Rattle.dt_tree.specs.Path.{path_names, path_text}
use Rattle.dt_tree.specs.Sound.{is_among}
use Rattle.dt_source.specs.TreeMeaning.Paths.{Path, same_path, is_listed}
use Rattle.dt_source.specs.TreeMeaning.Names.{fragment_name, is_fragment, overlay_name}
use Rattle.dt_source.specs.TreeMeaning.Syntax.{Target, OfLabel, OfPath, Piece, Plain, PhandleOf, Entry, Defines, Undefines, Child, Removes, Body, Done, Then, Edit, Rooted, Extends, Deletes, Omits, Meaning}
use Rattle.dt_source.specs.TreeMeaning.Edits.{State, empty, has_node, with_node, without_node, with_property, without_property, label_path, with_label}

pub data Fault : Type 0 where
  UnknownLabel : Fault
  DuplicateLabel : Fault
  UnknownPath : Fault
  BadPhandle : Fault
  DuplicatePhandle : Fault
  DuplicateInBody : Fault
  PathInPlugin : Fault
  ReservedName : Fault
  TooDeep : Fault

-- ---- labels
abbrev pub give_label : {V : Type 0} → List ℕ → Path → Option Path → State V → Result (State V) Fault
give_label l p None s = Ok (with_label l p s)
give_label l p (Some q) s = if same_path p q then Ok s else Err DuplicateLabel

abbrev pub give_labels : {V : Type 0} → List (List ℕ) → Path → State V → Result (State V) Fault
give_labels [] p s = Ok s
give_labels (l ∷ ls) p s = then_do (give_label l p (label_path l s.labels) s) (give_labels ls p)

-- ---- statements
-- a child of the root with the name of a fragment made before it
abbrev pub is_made : {V : Type 0} → Path → List ℕ → State V → Bool
is_made p n s = same_path p [] && is_fragment s.fragments n

-- the tree, and the names of the properties and of the children that a body has defined so far
pub record Progress (V : Type 0) : Type 0 where
  pub properties : List (List ℕ)
  pub children : List (List ℕ)
  pub state : State V

abbrev pub progress : {V : Type 0} → List (List ℕ) → List (List ℕ) → State V → Progress V
progress ps cs s = record { properties = ps; children = cs; state = s }

-- a body of the node at p begins
abbrev pub begun : {V : Type 0} → State V → Progress V
begun s = progress [] [] s

-- why a child of the node at p can't be defined: at one name the order is 25, 27, 28
abbrev pub child_fault : {V : Type 0} → Path → List ℕ → List (List ℕ) → State V → Option Fault
child_fault p n cs s =
    if is_among n cs then Some DuplicateInBody else (if is_made p n s then Some ReservedName else (if nat_lt 63 (length p) then Some TooDeep else None))

abbrev pub unless : {A : Type 0} → Option Fault → Result A Fault → Result A Fault
unless None r = r
unless (Some f) r = Err f

abbrev mutual
  -- one statement of a body of the node at p
  pub after_entry : {V : Type 0} → Entry V → Path → Progress V → Result (Progress V) Fault
  after_entry (Defines n v) p x =
      if is_among n x.properties then Err DuplicateInBody else Ok (progress (n ∷ x.properties) x.children (with_property p n v x.state))
  after_entry (Undefines n) p x = Ok (progress x.properties x.children (without_property p n x.state))
  after_entry (Removes n) p x = Ok (progress x.properties x.children (without_node (p ++ n ∷ []) x.state))
  after_entry (Child omitted ls n body) p x =
      then_do (give_labels ls (p ++ n ∷ []) x.state) (λ s.
      unless (child_fault p n x.children s)
      (then_do (after_body body (p ++ n ∷ []) (begun (with_node (p ++ n ∷ []) s))) (λ t. Ok (progress x.properties (n ∷ x.children) t))))

  -- the statements of a body of the node at p
  pub after_body : {V : Type 0} → Body V → Path → Progress V → Result (State V) Fault
  after_body Done p x = Ok x.state
  after_body (Then first others) p x = then_do (after_entry first p x) (after_body others p)

-- ---- items
abbrev pub found : {V : Type 0} → Target → State V → Result Path Fault
found (OfLabel l) s = ok_or (label_path l s.labels) UnknownLabel
found (OfPath t) s = if has_node (path_names t) s then Ok (path_names t) else Err UnknownPath

-- a fragment says what it extends
abbrev pub target_name : Target → List ℕ
target_name (OfLabel l) = codes "target"
target_name (OfPath t) = codes "target-path"

abbrev pub target_value : Target → List Piece
target_value (OfLabel l) = PhandleOf (OfLabel l) ∷ []
target_value (OfPath t) = Plain (path_text (path_names t) ++ 0 ∷ []) ∷ []

abbrev pub with_fragment : List ℕ → Target → State (List Piece) → State (List Piece)
with_fragment f t s =
    with_node (f ∷ overlay_name ∷ [])
    (with_property (f ∷ []) (target_name t) (target_value t) (with_node (f ∷ []) (record s { fragments = s.fragments + 1 })))

abbrev pub after_fragment : Target → Body (List Piece) → List ℕ → State (List Piece) → Result (State (List Piece)) Fault
after_fragment t body f s =
    if is_listed (f ∷ []) s.nodes then Err ReservedName
    else after_body body (f ∷ overlay_name ∷ []) (begun (with_fragment f t s))

-- an extension of a plugin without labels, by a path or by a label that no node has
abbrev pub makes_fragment : Bool → List (List ℕ) → Target → State (List Piece) → Bool
makes_fragment false ls t s = false
makes_fragment true (l ∷ ls) t s = false
makes_fragment true [] (OfPath t) s = true
makes_fragment true [] (OfLabel l) s = not (is_some (label_path l s.labels))

-- the profile's grammar has no `/omit-if-no-ref/`, which says nothing here
abbrev pub after_item : Bool → Edit → State (List Piece) → Result (State (List Piece)) Fault
after_item plugin (Rooted body) s = after_body body [] (begun s)
after_item plugin (Deletes t) s = then_do (found t s) (λ p. if same_path p [] then Err ReservedName else Ok (without_node p s))
after_item plugin (Omits t) s = Ok s
after_item plugin (Extends ls t body) s =
    if makes_fragment plugin ls t s then after_fragment t body (fragment_name s.fragments) s
    else then_do (found t s) (λ p. then_do (give_labels ls p s) (λ u. after_body body p (begun u)))

abbrev pub after_items : Bool → List Edit → State (List Piece) → Result (State (List Piece)) Fault
after_items plugin [] s = Ok s
after_items plugin (i ∷ is) s = then_do (after_item plugin i s) (after_items plugin is)

-- the tree begins as an empty root
abbrev pub edited : Meaning → Result (State (List Piece)) Fault
edited m = after_items m.plugin m.items empty
