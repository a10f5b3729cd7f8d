use Rattle.std.proofs.Common.{codes, refl}
use Rattle.dtman_words.proofs.MetLemmas.{value}
use Rattle.dtman_words.proofs.reading.compile_by.Goals as goal

pub returns : goal.returns
returns c =
    let given = c.args.given.now in
    (refl, value given (codes "IN") c.in_ok-get_str.field-0.now c.in_ok-get_str.ensures, value given (codes "OUT") c.in_ok-get_str-2.field-0.now c.in_ok-get_str-2.ensures, c.is_on.ensures, c.requires.language, c.requires.preprocessing, c.text.ensures)
