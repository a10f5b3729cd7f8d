use Rattle.std.proofs.Common.{◌≡◌, true, false, List, sym, ◌∙◌, arith}
use Rattle.std.specs.Str.{bytes_eq}
use Rattle.std.proofs.lemmas.Grind.{common_steps}
use Rattle.std.proofs.lemmas.List.{at_drop_all}
use Rattle.dt_tree.specs.declared.property.Property.{Property}
use Rattle.dt_tree.specs.PathMap.{value_of}
use Rattle.dt_tree.proofs.node.Node.value.Goals as goal

pub returns-then-eq : goal.returns-then-eq
returns-then-eq c = let same : bytes_eq c.as_bytes.result.now c.args.name.now ≡ true = sym c.eq.ensures ∙ c.if-eq.true in grind (arith, common_steps, same)

pub loop-property-preserved : goal.loop-property-preserved
loop-property-preserved c = let other : bytes_eq c.as_bytes.result.now c.args.name.now ≡ false = sym c.eq.ensures ∙ c.if-eq.false in grind (arith, common_steps, other)

pub returns : goal.returns
returns c = sym (at_drop_all (λ (l : List Property). value_of l c.args.name.now) _ _ c.loop-property-test.false) ∙ c.loop-property.invariant
