-- A tree that the edits of a source made (Devicetree Specification v0.4, sections 2.3.3 and 6.3).
use Rattle.std.specs.Prelude.{◌≡◌, ℕ, Bool, List, [], Result, Ok, Err, MatchResult, if◌then◌else◌}
use Rattle.dt_tree.specs.Steps.{then_do}
use Rattle.dt_source.specs.TreeMeaning.Syntax.{Meaning}
use Rattle.dt_source.specs.TreeMeaning.Edits.{Definition, counted}
use Rattle.dt_source.specs.TreeMeaning.Statements as meaning
use Rattle.dt_source.specs.TreeMeaning.Phandles.{given_of}
use Rattle.dt_source.specs.TreeMeaning.References.{Found, in_order, references}
use Rattle.dt_source.specs.TreeMeaning.Resolved.{names_taken}
use Rattle.dt_live.specs.declared.live_tree.LiveTree.{LiveTree}
use Rattle.dt_live.specs.declared.preorder.Preorder.{Preorder}
use Rattle.dt_build.specs.Edit.Said.{Parts, tree_of}
use Rattle.dt_build.specs.declared.resolve.error.BuildError.{BuildError}
use Rattle.dt_build.specs.declared.resolve.prepared.Prepared.{Prepared}
use Rattle.dt_build.specs.declared.resolve.resolving.Resolution.{Resolution}
use Rattle.dt_build.specs.Resolve.BuildFault.{IsFault}
use Rattle.dt_build.specs.Resolve.Prepared.{Prepares}
use Rattle.dt_build.specs.Resolve.Resolution.{IsResolved}

-- the phandles and the references of a tree are found, or the call has the fault
abbrev pub Resolves : Bool → Bool → LiveTree Parts → Result Resolution BuildError → Type 0
Resolves symbols plugin d result = MatchResult result
    (λ all. (es : List (Definition (List Found))) × IsResolved symbols plugin d es all)
    (λ e. IsFault e.kind (if names_taken symbols plugin (tree_of d) then Err meaning.ReservedName else then_do (given_of (in_order (tree_of d)) []) (λ _. references plugin (tree_of d))))

-- a tree with its order and what was found in it
abbrev pub whole : Bool → LiveTree Parts → Preorder Parts × Resolution → Prepared
whole plugin d x = record { plugin = plugin; live = d; in_preorder = x.0; resolution = x.1 }

-- whichever source made the tree is prepared
abbrev pub Completes : Bool → Bool → LiveTree Parts → Result (Preorder Parts × Resolution) BuildError → Type 0
Completes symbols plugin d result =
    (m : Meaning) (n : ℕ) → meaning.edited m ≡ Ok (counted n (tree_of d)) → plugin ≡ m.plugin → Prepares symbols m (whole plugin d) result
