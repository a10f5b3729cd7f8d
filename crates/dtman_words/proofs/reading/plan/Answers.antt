use Rattle.std.proofs.Common.{refl}
use Rattle.dtman_words.proofs.reading.plan.Goals as goal

pub returns : goal.returns
returns c = (refl, c.in_ok-board.ensures, c.picture.ensures, c.is_on.ensures)
