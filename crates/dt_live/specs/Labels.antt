-- The labels of a live tree's nodes (Devicetree Specification v0.4, section 6.2).
use Rattle.std.specs.Prelude.{◌≡◌, ℕ, List, map, MatchOption, Option, None, Some, Result, Err}
use denote.Ref.{Bor}
use Rattle.dt_source.specs.TreeMeaning.Paths.{Path}
use Rattle.dt_source.specs.TreeMeaning.Edits.{State, label_path}
use Rattle.dt_source.specs.TreeMeaning.Statements.{Fault, DuplicateLabel, give_label, give_labels}
use Rattle.dt_live.specs.declared.live_tree.LiveTree.{LiveTree}
use Rattle.dt_live.specs.Rows.{node_path, state_of}

-- the path of the node that has a label
abbrev pub labelled_path : {V : Type 0} → LiveTree V → List ℕ → Option Path
labelled_path d label = label_path label (state_of d).labels

-- the node that has a label, none where none has it
abbrev pub IsLabelled : {V : Type 0} → LiveTree V → List ℕ → Option ℕ → Type 0
IsLabelled d label found = MatchOption found (labelled_path d label ≡ None) (λ node. labelled_path d label ≡ Some (node_path d node))

-- the tree once a node has a label, or labels in order
abbrev pub given_label : {V : Type 0} → LiveTree V → ℕ → List ℕ → Result (State V) Fault
given_label d node label = give_label label (node_path d node) (labelled_path d label) (state_of d)

abbrev pub given_labels : {V : Type 0} → LiveTree V → ℕ → List (Bor (List ℕ)) → Result (State V) Fault
given_labels d node labels = give_labels (map (λ l. l.now) labels) (node_path d node) (state_of d)

-- another node has the label
abbrev pub IsTaken : {V : Type 0} → Result (State V) Fault → Type 0
IsTaken given = given ≡ Err DuplicateLabel
