-- A source whose edits are done and whose references are found (Devicetree Specification v0.4, sections 2.3.3 and 6.3).
use Rattle.std.specs.Prelude.{◌≡◌, ℕ, Bool, true, List, map, All, Result, Ok, MatchResult}
use Rattle.dt_source.specs.TreeMeaning.Syntax.{Meaning}
use Rattle.dt_source.specs.TreeMeaning.Edits.{Definition, counted}
use Rattle.dt_source.specs.TreeMeaning.Statements as meaning
use Rattle.dt_source.specs.TreeMeaning.References.{Found, in_order, preorder}
use Rattle.dt_source.specs.TreeMeaning.Resolved.{resolved}
use Rattle.dt_live.specs.Rows.{IsLiveTree, IsNode, is_standing, node_path, state_of}
use Rattle.dt_live.specs.Preorder.{definition_of}
use Rattle.dt_build.specs.Edit.Said.{tree_of}
use Rattle.dt_build.specs.declared.resolve.error.BuildError.{BuildError}
use Rattle.dt_build.specs.declared.resolve.prepared.Prepared.{Prepared}
use Rattle.dt_build.specs.Resolve.BuildFault.{IsFault}
use Rattle.dt_build.specs.Resolve.NodePhandles.{AreStanding}
use Rattle.dt_build.specs.Resolve.Resolution.{IsResolved}
use Rattle.dt_build.specs.Resolve.Targets.{IsKnown, IsThere}

-- the edits made the tree; it is in preorder; its references were found and its nodes have their phandles
pub record IsPrepared (symbols : Bool) (m : Meaning) (es : List (Definition (List Found))) (p : Prepared) : Type 0 where
  pub plugin : p.plugin ≡ m.plugin
  pub sound : IsLiveTree p.live
  pub fragments : ℕ
  pub edited : meaning.edited m ≡ Ok (counted fragments (tree_of p.live))
  pub nodes : map (node_path p.live) p.in_preorder.nodes.items ≡ preorder (state_of p.live).nodes
  pub known : All (λ n. IsNode p.live n) p.in_preorder.nodes.items
  pub there : All (λ n. is_standing p.live n ≡ true) p.in_preorder.nodes.items
  pub owners : All (λ x. IsNode p.live x.node) p.in_preorder.properties.items
  pub stand : All (λ x. is_standing p.live x.node ≡ true) p.in_preorder.properties.items
  pub properties : map (definition_of p.live) p.in_preorder.properties.items ≡ in_order (state_of p.live)
  pub resolved : IsResolved symbols m.plugin p.live es p.resolution
  pub targets_known : All (IsKnown p.live) p.resolution.targets.all.items
  pub targets_there : All (IsThere p.live) p.resolution.targets.all.items
  pub given : AreStanding p.live.nodes.items p.resolution.given.phandles.items
  pub new : AreStanding p.live.nodes.items p.resolution.new.items

-- a call prepares a source, or has the meaning's fault
abbrev pub Prepares : {A : Type 0} → Bool → Meaning → (A → Prepared) → Result A BuildError → Type 0
Prepares symbols m whole result =
    MatchResult result (λ a. (es : List (Definition (List Found))) × IsPrepared symbols m es (whole a)) (λ e. IsFault e.kind (resolved symbols m))
