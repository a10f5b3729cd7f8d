use Rattle.std.proofs.Common.{codes, refl}
use Rattle.dtman_words.proofs.MetLemmas.{value}
use Rattle.dtman_words.proofs.reading.trees.map.Goals as goal

pub returns : goal.returns
returns c = (refl, value c.args.given.now (codes "BLOB") c.in_ok-blob.blob.now c.in_ok-blob.ensures)
