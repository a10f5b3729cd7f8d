use Rattle.std.proofs.Common.{codes, refl}
use Rattle.dtman_words.proofs.MetLemmas.{value}
use Rattle.dtman_words.proofs.reading.trace.Goals as goal

pub returns : goal.returns
returns c =
    let given = c.args.given.now in
    (refl, value given (codes "LOG") c.in_ok-log.log.now c.in_ok-log.ensures, value given (codes "PLAN") c.in_ok-plan.plan.now c.in_ok-plan.ensures)
