use Rattle.std.proofs.Common.{codes, refl}
use Rattle.dtman_words.proofs.MetLemmas.{value}
use Rattle.dtman_words.proofs.reading.diff.Goals as goal

pub returns : goal.returns
returns c =
    let given = c.args.given.now in
    (refl, value given (codes "FIRST") c.in_ok-first.first.now c.in_ok-first.ensures, value given (codes "SECOND") c.in_ok-second.second.now c.in_ok-second.ensures, c.is_on-order.ensures)
