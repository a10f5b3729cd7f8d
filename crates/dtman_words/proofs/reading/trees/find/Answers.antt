use Rattle.std.proofs.Common.{codes, refl}
use Rattle.dtman_words.proofs.MetLemmas.{value}
use Rattle.dtman_words.proofs.reading.trees.find.Goals as goal

pub returns : goal.returns
returns c =
    let given = c.args.given.now in
    (refl, value given (codes "BLOB") c.in_ok-blob.blob.now c.in_ok-blob.ensures, value given (codes "WHAT") c.in_ok-what.what.now c.in_ok-what.ensures)
