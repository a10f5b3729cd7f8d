-- One device more is written.
use Rattle.std.proofs.Common.{◌∙◌, ap, ◌<◌, ◌≤◌, ◌++◌, length, arith}
use Rattle.std.proofs.lemmas.List.{take_all}
use Rattle.bus_plan.specs.PlanText.{lines_text}
use Rattle.bus_plan.proofs.TextSteps.{devices-more}
use Rattle.bus_plan.proofs.writing.write_devices.Goals as goal

pub loop-index-preserved : goal.loop-index-preserved
loop-index-preserved c =
    let within : c.loop-index.index < length c.args.plan.now = omega arith in
    c.in_ok-write_device.ensures
    ∙ devices-more c.args.text.now.items c.loop-index.text.items c.args.plan.now c.loop-index.index c.new.result within c.new.ensures c.loop-index.invariant

pub returns : goal.returns
returns c =
    let all : length c.args.plan.now ≤ c.loop-index.index = omega arith in
    c.loop-index.invariant ∙ ap (λ ds. c.args.text.now.items ++ lines_text c.args.plan.now ds) (take_all c.loop-index.index c.args.plan.now all)
