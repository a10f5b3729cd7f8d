use Rattle.std.proofs.Common.{◌∙◌, ne_eqb}
use Rattle.dtman_check.proofs.OwnNamesLemmas.{other-last, string-is}
use Rattle.dtman_check.proofs.own_names.is_string.Goals as goal

pub returns-then-last-eq0 : goal.returns-then-last-eq0
returns-then-last-eq0 c =
    c.eq.ensures ∙ string-is c.args.value.now c.args.text.now c.in-Some.rest.now c.in-Some.last.now c.in-Some.ensures.cases.0 c.if-last-eq0.true

pub returns-else-last-eq0 : goal.returns-else-last-eq0
returns-else-last-eq0 c =
    ne_eqb c.in-Some.last.now 0 c.if-last-eq0.false
    ∙ other-last c.args.value.now c.args.text.now c.in-Some.rest.now c.in-Some.last.now c.in-Some.ensures.cases.0 c.if-last-eq0.false
