use Rattle.std.proofs.Common.{refl}
use Rattle.dtman_words.proofs.reading.why.Goals as goal

pub returns : goal.returns
returns c = (refl, c.in_ok-board.ensures, c.text.ensures, c.text-2.ensures, c.is_on.ensures)
