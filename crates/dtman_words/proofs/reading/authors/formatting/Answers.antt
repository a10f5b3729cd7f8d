use Rattle.std.proofs.Common.{codes}
use Rattle.dtman_words.proofs.MetLemmas.{value}
use Rattle.dtman_words.proofs.reading.authors.formatting.Goals as goal

pub returns : goal.returns
returns c =
    let given = c.args.given.now in
    (value given (codes "IN") c.in_ok-get_str.field-0.now c.in_ok-get_str.ensures, c.is_on.ensures, c.is_on-2.ensures, c.is_on-3.ensures, c.text.ensures)
