use Rattle.std.proofs.Common.{◌≡◌, ◌++◌, map, take, drop, length}
use Rattle.bus_board.specs.Words.{number_of}
use Rattle.bus_board.proofs.seats.closing.write_words.Given as goal

abbrev pub invariant-loop-index : goal.invariant-loop-index
invariant-loop-index l =
    (length l.out ≡ length l.initial.out)
    × (l.out ≡ map number_of (take l.index l.words) ++ drop l.index l.initial.out)
