use Rattle.std.proofs.Common.{◌≡◌, ◌+◌, ◌-◌, ◌*◌, List, drop}
use Rattle.dt_tree.specs.declared.limits.TheConstants.{MAX_DEPTH}
use Rattle.dt_source.specs.Tree.{views}
use Rattle.dt_source.specs.TreeMeaning.Syntax.{Piece}
use Rattle.dt_source.specs.TreeMeaning.Edits.{counted}
use Rattle.dt_source.specs.TreeMeaning.Statements.{Progress}
use Rattle.dt_live.specs.Rows.{node_path}
use Rattle.dt_build.specs.Edit.FaultPlaces.{body_place, place_in, spots}
use Rattle.dt_build.specs.Edit.Said.{tree_of}
use Rattle.dt_build.proofs.EditLemmas.Steps.{IsUnderWay}
use Rattle.dt_build.proofs.edit.body.+edits.Given as goal

abbrev pub invariant-edit_body-loop-statement : goal.invariant-edit_body-loop-statement
invariant-edit_body-loop-statement l =
    (x : Progress (List Piece)) × IsUnderWay x l.fn.live l.live l.node l.stamp l.made.count (views l.body) (views (drop l.statement-index l.body))
    × (body_place (views (drop l.statement-index l.body)) (spots (drop l.statement-index l.body)) (node_path l.fn.live l.node) x
    ≡ place_in l.body (node_path l.fn.live l.node) (counted l.made.count (tree_of l.fn.live)))

-- each body is one level deeper, down to MAX_DEPTH
abbrev pub decreases-edit : goal.decreases-edit
decreases-edit l = (MAX_DEPTH - l.depth) * 3 + 1

abbrev pub decreases-edit_child : goal.decreases-edit_child
decreases-edit_child l = (MAX_DEPTH - l.depth) * 3

abbrev pub decreases-edit_body : goal.decreases-edit_body
decreases-edit_body l = (MAX_DEPTH - l.depth) * 3 + 2
