-- One step more, or the last.
use Rattle.std.proofs.Common.{◌∙◌, sym}
use Rattle.dt_check.proofs.LinksLemmas.WayLemmas.{way-on}
use Rattle.dt_check.proofs.links.interrupts.search_from.Goals as goal

pub loop-left-preserved : goal.loop-left-preserved
loop-left-preserved c =
    way-on c.args.survey.now c.args.own c.loop-left.left c.loop-left.at c.in-Ok.above c.loop-left-test.true (sym c.next.ensures ∙ c.in-Ok.is)
    ∙ c.loop-left.invariant
