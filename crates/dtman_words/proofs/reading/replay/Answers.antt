use Rattle.std.proofs.Common.{codes, refl}
use Rattle.dtman_words.proofs.MetLemmas.{value}
use Rattle.dtman_words.proofs.reading.replay.Goals as goal

pub returns : goal.returns
returns c =
    let given = c.args.given.now in
    (refl, value given (codes "PLAN") c.in_ok-get_str.field-0.now c.in_ok-get_str.ensures, value given (codes "SCHEDULE") c.in_ok-get_str-2.field-0.now c.in_ok-get_str-2.ensures, c.in_ok-asked_workers.ensures)
