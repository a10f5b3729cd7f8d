-- One step up.
use Rattle.std.proofs.Common.{◌∙◌, ap, sym, ◌-◌}
use Rattle.std.proofs.lemmas.Bool.{ne_eqb}
use Rattle.bus_links.specs.Links.{reached_within}
use Rattle.bus_links.proofs.MakingLemmas.{reached-on}
use Rattle.bus_links.proofs.making.Maker.is_reached.Goals as goal

pub loop-left-preserved : goal.loop-left-preserved
loop-left-preserved c =
    let maker = c.args.self.now in
    ap (reached_within maker.nodes.now maker.early.now maker.buses.now (c.loop-left.left - 1)) c.above-at.ensures
    ∙ reached-on maker.nodes.now maker.early.now maker.buses.now c.loop-left.left c.loop-left.at c.loop-left-test.true (ne_eqb c.loop-left.at 0 c.if-at-eq0.false)
    (sym c.lets_below.ensures ∙ c.if-not-lets_below.false)
    ∙ c.loop-left.invariant
