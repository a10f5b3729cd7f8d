use Rattle.std.proofs.Common.{ap, sym}
use Rattle.bus_board.specs.Words.{number_of}
use Rattle.bus_board.proofs.words.Word.number.Goals as goal

pub returns-in-Woken : goal.returns-in-Woken
returns-in-Woken c = sym (ap number_of c.in-Woken.is)
