use Rattle.std.proofs.Common.{sym, ap, ◌∙◌}
use Rattle.dt_source.specs.Filled.{is_stored}
use Rattle.dt_source.specs.Tree.{part_view}
use Rattle.dt_source.proofs.FillingSteps.{holds_here, holds_on, holds_over}
use Rattle.dt_source.proofs.filling.holds_file.Goals as goal

pub returns-then-is_stored : goal.returns-then-is_stored
returns-then-is_stored c = holds_here c.args.value.now c.loop-part.part-index _ c.loop-part-test.true (sym (ap (λ p. is_stored (part_view p)) c.part-item.is) ∙ sym c.is_stored.ensures ∙ c.if-is_stored.true) c.loop-part.invariant

pub loop-part-preserved : goal.loop-part-preserved
loop-part-preserved c = holds_on c.args.value.now c.loop-part.part-index _ c.loop-part-test.true (sym (ap (λ p. is_stored (part_view p)) c.part-item.is) ∙ sym c.is_stored.ensures ∙ c.if-is_stored.false) c.loop-part.invariant

pub returns : goal.returns
returns c = holds_over c.args.value.now c.loop-part.part-index c.loop-part-test.false c.loop-part.invariant
