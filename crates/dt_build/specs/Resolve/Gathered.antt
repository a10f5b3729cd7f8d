-- All that making a tree in dtc's language needs: what is left of the tree, the targets of its references, and the numbers of nodes
-- (Devicetree Specification v0.4, sections 2.3.3 and 6.3; in plugins dt-object-internal, section 2).
use Rattle.std.specs.Prelude.{◌≡◌, ℕ, Bool, not, List, [], map, All, Option, Some, None, Result, Ok, Err, MatchResult, if◌then◌else◌, Vec, true, ◌∷◌}
use Rattle.std.specs.Global.{Global}
use Rattle.std.specs.List.{filter, list_any}
use Rattle.dt_tree.specs.Steps.{then_do}
use Rattle.dt_source.specs.TreeMeaning.Paths.{Path, is_listed}
use Rattle.dt_source.specs.TreeMeaning.Edits.{counted}
use Rattle.dt_source.specs.TreeMeaning.Statements.{Fault, ReservedName}
use Rattle.dt_source.specs.TreeMeaning.References.{preorder, references}
use Rattle.dt_source.specs.TreeMeaning.Resolved.{names_taken, when}
use Rattle.dt_source.specs.TreeMeaning.DtcEdits.{DtcTree, ever_labelled}
use Rattle.dt_source.specs.TreeMeaning.DtcStatements.{dtc_state}
use Rattle.dt_source.specs.TreeMeaning.DtcPhandles.{asks_for_own, given_by_both}
use Rattle.dt_source.specs.TreeMeaning.DtcResolved as meaning
use Rattle.dt_live.specs.Rows.{IsLiveTree, IsNode, is_standing, node_path}
use Rattle.dt_live.specs.Preorder.{AreInOrder, AreInPreorder, Stands}
use Rattle.dt_build.specs.Edit.Said.{tree_of}
use Rattle.dt_build.specs.declared.resolve.error.BuildError.{BuildError}
use Rattle.dt_build.specs.declared.resolve.gathered.Gathered.{Gathered}
use Rattle.dt_build.specs.Resolve.BuildFault.{IsFault}
use Rattle.dt_build.specs.Resolve.Founds.{found_properties}
use Rattle.dt_build.specs.Resolve.NodePhandles.{path_phandle_of}
use Rattle.dt_build.specs.Resolve.Targets.{IsKnown}

-- what is gathered of a source's tree, or the first fault
abbrev pub all_gathered : Bool → Bool → DtcTree → Result meaning.Gathered Fault
all_gathered symbols plugin t =
    if names_taken symbols plugin (dtc_state t) then Err ReservedName
    else then_do (references plugin (dtc_state t)) (λ es. then_do (given_by_both es []) (λ given. meaning.gathered symbols plugin t es given))

-- the targets of a plugin's references in what is left: those found before, where none was sought anew
abbrev pub targets_anew : List (Option ℕ) → Option (Vec (Option ℕ) Global) → List (Option ℕ)
targets_anew ts None = ts
targets_anew ts (Some v) = v.items

-- a target is one of the nodes that pass, where there is one
abbrev pub IsAmong : (ℕ → Bool) → Option ℕ → Type 0
IsAmong test None = Unit {0}
IsAmong test (Some n) = test n ≡ true

-- The nodes that stood before some went, told apart by their paths: those that still stand are the nodes of what is left, and each
-- target and each node with a number is one of them.
pub record HaveStood (rest : List Path) (x : Gathered) : Type 0 where
  pub stood : ℕ → Bool
  pub once : (n m : ℕ) → stood n ≡ true → stood m ≡ true → node_path x.live n ≡ node_path x.live m → n ≡ m
  pub left : (n : ℕ) → stood n ≡ true → is_standing x.live n ≡ is_listed (node_path x.live n) ([] ∷ rest)
  pub still : (n : ℕ) → IsNode x.live n → is_standing x.live n ≡ true → stood n ≡ true
  pub targets : All (IsAmong stood) x.targets.items
  pub anew : All (IsAmong stood) (targets_anew x.targets.items x.anew)
  pub given : All (λ y. stood y.node ≡ true) x.given.items
  pub new : All (λ y. stood y.node ≡ true) x.new.items

-- the lists are those of the meaning
pub record IsGathered (plugin : Bool) (t : DtcTree) (meant : meaning.Gathered) (x : Gathered) : Type 0 where
  pub sound : IsLiveTree x.live
  pub rest : meant.rest ≡ counted t.fragments (tree_of x.live)
  pub nodes : AreInPreorder x.live x.in_preorder.nodes.items
  pub known : All (λ n. IsNode x.live n) x.in_preorder.nodes.items
  pub there : All (Stands x.live) x.in_preorder.nodes.items
  pub properties : AreInOrder x.live x.in_preorder.properties.items
  pub owners : All (λ y. IsNode x.live y.node) x.in_preorder.properties.items
  pub stand : All (λ y. Stands x.live y.node) x.in_preorder.properties.items
  pub values : meant.values ≡ found_properties (node_path x.live) x.in_preorder.properties.items x.targets.items
  pub targets : All (IsKnown x.live) x.targets.items
  pub fixed : meant.fixed ≡ when plugin (filter (λ e. not (asks_for_own e)) (found_properties (node_path x.live) x.in_preorder.properties.items (targets_anew x.targets.items x.anew)))
  pub anew : All (IsKnown x.live) (targets_anew x.targets.items x.anew)
  pub given : map (path_phandle_of x.live.nodes.items) x.given.items ≡ meant.given
  pub given_known : All (λ y. IsNode x.live y.node) x.given.items
  pub new : map (path_phandle_of x.live.nodes.items) x.new.items ≡ meant.new
  pub new_known : All (λ y. IsNode x.live y.node) x.new.items
  pub labelled : x.labelled ≡ list_any (ever_labelled t) (preorder meant.rest.nodes)
  pub before : HaveStood meant.rest.nodes x

-- a call gathers what the meaning does, or has its fault
abbrev pub Gathers : Bool → Bool → DtcTree → Result Gathered BuildError → Type 0
Gathers symbols plugin t result = MatchResult result
    (λ x. (meant : meaning.Gathered) × (all_gathered symbols plugin t ≡ Ok meant) × IsGathered plugin t meant x)
    (λ e. IsFault e.kind (all_gathered symbols plugin t))
