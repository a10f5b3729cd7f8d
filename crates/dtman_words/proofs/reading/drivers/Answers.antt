use Rattle.std.proofs.Common.{codes, refl}
use Rattle.dtman_words.proofs.MetLemmas.{value}
use Rattle.dtman_words.proofs.reading.drivers.Goals as goal

pub returns : goal.returns
returns c =
    let given = c.args.given.now in
    (refl, value given (codes "ALIASES") c.in_ok-get_str.field-0.now c.in_ok-get_str.ensures, c.text.ensures, c.text-2.ensures)
