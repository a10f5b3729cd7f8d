use Rattle.std.proofs.Common.{ℕ, List, take, sym, subst, arith}
use Rattle.std.proofs.lemmas.List.{take_all, take_more}
use Rattle.dt_live.specs.Placed.Shown.{HasNodes}
use Rattle.dt_live.specs.Placed.Tables.{rows_in}
use Rattle.dt_live.proofs.PlacedLemmas.Chosen.{node-rows, none-chosen}
use Rattle.dt_live.proofs.placed.placed_tree.PlacedTree.show_some.Goals as goal

pub show_nodes-requires : goal.show_nodes-requires
show_nodes-requires g c = node-rows c.args.self.now c.requires.sound

pub loop-node-init : goal.loop-node-init
loop-node-init g c = none-chosen (rows_in c.args.self.now.nodes) c.in_ok-shown.shown c.in_ok-shown.ensures

pub choose-requires-clause-node : goal.choose-requires-clause-node
choose-requires-clause-node g c = c.requires.stand c.loop-node.node-index _ c.loop-node-test.true

pub loop-node-preserved : goal.loop-node-preserved
loop-node-preserved g c =
    let i = c.loop-node.node-index in
    subst (λ (ns : List ℕ). HasNodes (rows_in c.args.self.now.nodes) ns c.choose.new.shown) (sym (take_more c.args.nodes.now i 0 c.loop-node-test.true))
    (c.in_ok-choose.ensures (take i c.args.nodes.now) c.loop-node.invariant)

pub returns : goal.returns
returns g c = subst (λ (ns : List ℕ). HasNodes (rows_in c.args.self.now.nodes) ns c.loop-node.shown) (take_all c.loop-node.node-index c.args.nodes.now (omega (arith, c.loop-node-test.false))) c.loop-node.invariant
