use Rattle.std.proofs.Common.{◌≡◌, ◌<◌, ℕ, Some, length, sym, ap, ◌∙◌, subst, add-one, arith}
use Rattle.std.proofs.lemmas.List.{get_or_default}
use Rattle.dt_live.specs.Placed.Rows.{no_place, place_at}
use Rattle.dt_live.specs.Placed.Tables.{rows_in}
use Rattle.dt_live.specs.Placed.PlacedTrees.{dtc_tree}
use Rattle.dt_live.specs.Placed.References.{IsFirstChild}
use Rattle.dt_live.proofs.PlacedLemmas.LookedUp.{child-none, child-some}
use Rattle.dt_live.proofs.placed.placed_tree.PlacedTree.first_child.Goals as goal

pub returns-then-index-node-clause-first : goal.returns-then-index-node-clause-first
returns-then-index-node-clause-first g c =
    let d = c.args.self.now in
    let nodes = rows_in d.nodes in
    let i = c.loop-row.row in
    let within : i < length nodes = omega (arith, c.loop-row-test.true, c.len-row-end.ensures) in
    let was : c.index.result.now ≡ place_at nodes i = c.index.ensures ∙ get_or_default nodes i c.index.result.now no_place within in
    let its : (place_at nodes i).owner ≡ c.args.node = sym (ap (λ x. x.owner) was) ∙ c.if-index-node.true in
    λ read. subst (λ (k : ℕ). IsFirstChild d c.args.node (dtc_tree read d) (Some k)) (sym (add-one i))
    (child-some d c.requires.sound c.args.node c.requires.node i within its c.loop-row.invariant read)

pub returns-clause-first : goal.returns-clause-first
returns-clause-first g c =
    let d = c.args.self.now in
    λ read. child-none d c.requires.sound c.args.node c.requires.node (λ j below e. c.loop-row.invariant j (omega (arith, below, c.loop-row-test.false, c.len-row-end.ensures)) e) read
