-- What edits of dtc's language do to a placed tree (Devicetree Specification v0.4, section 6.3).
use Rattle.std.specs.Prelude.{◌≡◌, ℕ, Bool, true, false, List, [], ◌∷◌, length, map, Result, Err, if◌then◌else◌}
use denote.Ref.{Bor}
use Rattle.dt_source.specs.declared.tree.Statement.{Statement}
use Rattle.dt_source.specs.Tree.{views}
use Rattle.dt_tree.specs.Steps.{then_do}
use Rattle.dt_source.specs.TreeMeaning.Syntax.{Piece, Body, Entry, Child, Target}
use Rattle.dt_source.specs.TreeMeaning.Statements.{Fault, DuplicateInBody}
use Rattle.dt_source.specs.TreeMeaning.DtcEdits.{DtcTree, made_node, named_node, node_has_place, with_labels_at}
use Rattle.dt_source.specs.TreeMeaning.DtcStatements.{dtc_body}
use Rattle.dt_live.specs.declared.placed.placed_tree.PlacedTree.{PlacedTree}
use Rattle.dt_live.specs.Placed.PlacedTrees.{IsPlacedTree, IsStanding, dtc_tree, node_path}
use Rattle.dt_live.specs.Placed.References.{IsShallow}
use Rattle.dt_live.specs.Placed.Tables.{rows_in}
use Rattle.dt_live.specs.Placed.PlacedEdits.{Grows, IsFresh, Keeps, counted_fragment}
use Rattle.dt_build.specs.Edit.Said.{Parts, pieces}

-- the tree that a placed tree shows, with its values as the source says them
abbrev pub placed_of : PlacedTree Parts → DtcTree
placed_of d = dtc_tree pieces d

-- a node that takes a body: it stands in a sound tree, so many levels deep; in the body with which it begins nothing was below it
pub record IsDtcPlace (d : PlacedTree Parts) (first : Bool) (node levels : ℕ) : Type 0 where
  pub sound : IsPlacedTree d
  pub standing : IsStanding d node
  pub depth : levels ≡ length (node_path d node)
  pub fresh : first ≡ true → IsFresh d node

-- what a body leaves as it was
pub record IsDtcEdited (first : Bool) (node : ℕ) (old new : PlacedTree Parts) : Type 0 where
  pub sound : IsPlacedTree new
  pub keeps : Keeps node old new
  pub grows : first ≡ true → Grows old new
  pub begun : new.begun ≡ old.begun

-- a child as the text says it
abbrev pub dtc_child : Bool → List (Bor (List ℕ)) → List ℕ → List Statement → Entry (List Piece)
dtc_child omitted labels name ss = Child omitted (map (λ l. l.now) labels) name (views ss)

-- the node of a fragment, if no child of the root ever had its name
abbrev pub fragment_begun : List ℕ → DtcTree → Result DtcTree Fault
fragment_begun f t = if node_has_place (f ∷ []) t then Err DuplicateInBody else made_node true (f ∷ []) (counted_fragment t)

-- an extension of a node that stands
abbrev pub dtc_extended : List (List ℕ) → Target → Body (List Piece) → DtcTree → Result DtcTree Fault
dtc_extended ls target body t = then_do (named_node target t) (λ p. dtc_body body false p (with_labels_at ls p t))

-- a tree in which a reference can be looked up
pub record IsDtcReady (d : PlacedTree Parts) : Type 0 where
  pub sound : IsPlacedTree d
  pub shallow : IsShallow d
  pub empty : d.begun ≡ false → rows_in d.nodes ≡ []
