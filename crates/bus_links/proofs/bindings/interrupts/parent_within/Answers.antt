-- One step more.
use Rattle.std.proofs.Common.{◌∙◌, sym}
use Rattle.bus_links.proofs.BindingsLemmas.InterruptLemmas.{parent-on}
use Rattle.bus_links.proofs.bindings.interrupts.parent_within.Goals as goal

pub loop-left-preserved : goal.loop-left-preserved
loop-left-preserved c =
    parent-on c.args.nodes.now c.loop-left.left c.loop-left.at c.in-Some.next c.loop-left-test.true (sym c.towards.ensures ∙ c.in-Some.is) (sym c.has.ensures ∙ c.if-has.false)
    ∙ c.loop-left.invariant
