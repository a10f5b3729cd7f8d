use Rattle.std.proofs.Common.{◌∙◌, ap, sym, ◌-◌}
use Rattle.std.proofs.lemmas.Bool.{ne_eqb}
use Rattle.bus_links.specs.Bindings.Interrupts.{address_cells_within}
use Rattle.bus_links.proofs.BindingsLemmas.InterruptLemmas.{cells-on}
use Rattle.bus_links.proofs.bindings.interrupts.address_cells_within.Goals as goal

pub loop-left-preserved : goal.loop-left-preserved
loop-left-preserved c =
    let nodes = c.args.nodes.now in
    ap (address_cells_within nodes (c.loop-left.left - 1)) c.above-at.ensures
    ∙ cells-on nodes c.loop-left.left c.loop-left.at c.loop-left-test.true (sym c.has.ensures ∙ c.if-has.false) (ne_eqb c.loop-left.at 0 c.if-at-eq0.false)
    ∙ c.loop-left.invariant
