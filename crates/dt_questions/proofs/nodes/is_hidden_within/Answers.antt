-- Level by level.
use Rattle.std.proofs.Common.{◌≡◌, ◌∙◌, ap, sym, None, Some}
use Rattle.std.proofs.lemmas.Bool.{eq-eqb, ne_eqb}
use Rattle.dt_tree.specs.Phandle.{is_reserved_name}
use Rattle.dt_check.specs.Nodes.{above_at}
use Rattle.dt_questions.proofs.StepLemmas.{hidden-on, hidden-at, hidden-top}
use Rattle.dt_questions.proofs.nodes.is_hidden_within.Goals as goal

pub returns-in_default : goal.returns-in_default
returns-in_default c =
    let up : above_at c.args.survey.now c.loop-left.at ≡ None = sym c.above.ensures ∙ c.in_default.is in
    sym (hidden-top c.args.survey.now c.loop-left.left c.loop-left.at c.loop-left-test.true up) ∙ c.loop-left.invariant

pub returns-then-above-eq0 : goal.returns-then-above-eq0
returns-then-above-eq0 c =
    let up : above_at c.args.survey.now c.loop-left.at ≡ Some c.in-Some.above = sym c.above.ensures ∙ c.in-Some.is in
    c.is_reserved_name.ensures ∙ ap is_reserved_name c.name_at.ensures
    ∙ sym (hidden-at c.args.survey.now c.loop-left.left c.loop-left.at c.in-Some.above c.loop-left-test.true (eq-eqb c.in-Some.above 0 c.if-above-eq0.true) up)
    ∙ c.loop-left.invariant

pub loop-left-preserved : goal.loop-left-preserved
loop-left-preserved c =
    let up : above_at c.args.survey.now c.loop-left.at ≡ Some c.in-Some.above = sym c.above.ensures ∙ c.in-Some.is in
    hidden-on c.args.survey.now c.loop-left.left c.loop-left.at c.in-Some.above c.loop-left-test.true (ne_eqb c.in-Some.above 0 c.if-above-eq0.false) up
    ∙ c.loop-left.invariant
