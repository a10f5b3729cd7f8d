use Rattle.std.proofs.Common.{◌≡◌, true, false, List, sym, ◌∙◌, arith}
use Rattle.std.specs.Str.{bytes_eq}
use Rattle.std.proofs.lemmas.Grind.{common_steps}
use Rattle.std.proofs.lemmas.List.{at_drop_all}
use Rattle.dt_tree.specs.NodeData.{NodeData, siblings}
use Rattle.dt_tree.specs.PathMap.{child_named}
use Rattle.dt_tree.proofs.node.Node.child.Goals as goal

pub returns-then-eq : goal.returns-then-eq
returns-then-eq c = let same : bytes_eq c.name_bytes.result.now c.args.name.now ≡ true = sym c.eq.ensures ∙ c.if-eq.true in grind (arith, common_steps, same)

pub loop-child-preserved : goal.loop-child-preserved
loop-child-preserved c = let other : bytes_eq c.name_bytes.result.now c.args.name.now ≡ false = sym c.eq.ensures ∙ c.if-eq.false in grind (arith, common_steps, other)

pub returns : goal.returns
returns c = sym (at_drop_all (λ (l : List NodeData). child_named (siblings l) c.args.name.now) _ _ c.loop-child-test.false) ∙ c.loop-child.invariant
