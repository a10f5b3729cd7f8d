use Rattle.std.proofs.Common.{codes, refl}
use Rattle.dtman_words.proofs.MetLemmas.{value}
use Rattle.dtman_words.proofs.reading.needs.Goals as goal

pub returns : goal.returns
returns c =
    let given = c.args.given.now in
    (refl, c.in_ok-board.ensures, value given (codes "PATH") c.in_ok-path.path.now c.in_ok-path.ensures)
