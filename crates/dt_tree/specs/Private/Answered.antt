-- What the calls that change one node, or the node at a path, answer.
use Rattle.std.specs.Prelude.{◌≡◌, ℕ, Bool, List, Option, None, Result, MatchResult}
use Rattle.std.specs.Option.{option_map}
use Rattle.dt_tree.specs.declared.error.TreeError.{TreeError}
use Rattle.dt_tree.specs.declared.node.changing.Edit.{Edit}
use Rattle.dt_tree.specs.NodeData.{NodeData, Siblings, node_data}
use Rattle.dt_tree.specs.Path.{behind_slashes}
use Rattle.dt_tree.specs.TreeData.{TreeData, tree_data}
use Rattle.dt_tree.specs.Private.Edits.{IsWhy, edit_fault, fault_at, there_at, was_there}
use Rattle.dt_tree.specs.Private.Merging.{merged_properties}

abbrev pub IsAnswer : Edit → Option TreeError → Bool → Result Bool TreeError → Type 0
IsAnswer edit fault there result =
    MatchResult result (λ was. (fault ≡ None) × (was ≡ there)) (λ e. IsWhy edit fault e)

-- at a node that may have so many levels below it
abbrev pub AnswersHere : Edit → ℕ → NodeData → Result Bool TreeError → Type 0
AnswersHere edit room node result = IsAnswer edit (edit_fault edit room node) (was_there edit node) result

-- and at the node that these names lead to
abbrev pub AnswersAt : List (List ℕ) → Edit → ℕ → NodeData → Result Bool TreeError → Type 0
AnswersAt names edit room node result = IsAnswer edit (fault_at names edit room node) (there_at names edit node) result

abbrev pub with_root : (NodeData → NodeData) → TreeData → TreeData
with_root change t = tree_data t.reserves t.boot_cpu (change t.root)

-- a node with the properties of another merged into its own, over these children
abbrev pub merged_over : NodeData → NodeData → Siblings → NodeData
merged_over a b children = node_data a.name (merged_properties a.properties b.properties) children

-- the text of a path, where there is one: each of its names behind a slash
abbrev pub IsWritten : Option (List (List ℕ)) → Option (List ℕ) → Type 0
IsWritten names text = text ≡ option_map behind_slashes names
