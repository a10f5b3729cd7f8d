-- Level by level.
use Rattle.std.proofs.Common.{◌≡◌, ◌∙◌, sym, None, Some}
use Rattle.dt_check.specs.Nodes.{above_at}
use Rattle.dt_questions.proofs.StepLemmas.{used-on, used-top, used-not}
use Rattle.dt_questions.proofs.nodes.is_used_within.Goals as goal

pub returns-then-not-is_okay_at : goal.returns-then-not-is_okay_at
returns-then-not-is_okay_at c =
    sym (used-not c.args.survey.now c.loop-left.left c.loop-left.at c.loop-left-test.true (sym c.is_okay_at.ensures ∙ c.if-not-is_okay_at.true))
    ∙ c.loop-left.invariant

pub returns-in_default : goal.returns-in_default
returns-in_default c =
    let up : above_at c.args.survey.now c.loop-left.at ≡ None = sym c.above.ensures ∙ c.in_default.is in
    sym (used-top c.args.survey.now c.loop-left.left c.loop-left.at c.loop-left-test.true (sym c.is_okay_at.ensures ∙ c.if-not-is_okay_at.false) up)
    ∙ c.loop-left.invariant

pub loop-left-preserved : goal.loop-left-preserved
loop-left-preserved c =
    let up : above_at c.args.survey.now c.loop-left.at ≡ Some c.in-Some.above = sym c.above.ensures ∙ c.in-Some.is in
    used-on c.args.survey.now c.loop-left.left c.loop-left.at c.in-Some.above c.loop-left-test.true (sym c.is_okay_at.ensures ∙ c.if-not-is_okay_at.false) up
    ∙ c.loop-left.invariant
