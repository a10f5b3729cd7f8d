-- One device more is written.
use Rattle.std.proofs.Common.{◌∙◌, ap, ◌<◌, ◌≤◌, ◌++◌, length, arith}
use Rattle.std.proofs.lemmas.List.{take_all}
use Rattle.bus_plan.specs.PlanText.{strings_lines}
use Rattle.bus_plan.proofs.TextSteps.{lists-more}
use Rattle.bus_plan.proofs.writing.write_all_compatibles.Goals as goal

pub loop-index-preserved : goal.loop-index-preserved
loop-index-preserved c =
    let within : c.loop-index.index < length c.args.plan.now = omega arith in
    lists-more c.args.text.now.items c.loop-index.text.items _ c.args.plan.now c.loop-index.index c.new.result within c.new.ensures c.loop-index.invariant c.in_ok-write_compatibles.ensures

pub returns : goal.returns
returns c =
    let all : length c.args.plan.now ≤ c.loop-index.index = omega arith in
    c.loop-index.invariant ∙ ap (λ ds. c.args.text.now.items ++ strings_lines ds) (take_all c.loop-index.index c.args.plan.now all)
