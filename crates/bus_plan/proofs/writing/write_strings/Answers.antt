-- One string more is written.
use Rattle.std.proofs.Common.{◌∙◌}
use Rattle.bus_plan.proofs.TextSteps.{strings-more}
use Rattle.bus_plan.proofs.writing.write_strings.Goals as goal

pub loop-string-preserved : goal.loop-string-preserved
loop-string-preserved c =
    c.in_ok-write_field.ensures
    ∙ strings-more c.args.text.now.items c.loop-string.text.items c.args.strings.now c.loop-string.string-index c.string-item.result c.as_slice.result.now
    c.loop-string-test.true c.string-item.is c.as_slice.ensures c.loop-string.invariant
