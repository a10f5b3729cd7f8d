use Rattle.std.proofs.Common.{codes}
use Rattle.dtman_words.proofs.MetLemmas.{value}
use Rattle.dtman_words.proofs.reading.board.Goals as goal

pub returns : goal.returns
returns c =
    let given = c.args.given.now in
    (value given (codes "BLOB") c.in_ok-get_str.field-0.now c.in_ok-get_str.ensures, value given (codes "DRIVERS") c.in_ok-get_str-2.field-0.now c.in_ok-get_str-2.ensures, c.links.ensures)
