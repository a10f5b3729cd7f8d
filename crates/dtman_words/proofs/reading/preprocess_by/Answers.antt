use Rattle.std.proofs.Common.{codes, refl}
use Rattle.dtman_words.proofs.MetLemmas.{value}
use Rattle.dtman_words.proofs.reading.preprocess_by.Goals as goal

pub returns : goal.returns
returns c =
    let given = c.args.given.now in
    (refl, value given (codes "IN") c.in_ok-source.source.now c.in_ok-source.ensures, c.requires)
