use Rattle.std.proofs.Common.{refl}
use Rattle.dtman_words.proofs.reading.probe.Goals as goal

pub returns : goal.returns
returns c = (refl, c.in_ok-board.ensures, c.text.ensures, c.in_ok-workers.ensures, c.text-2.ensures)
