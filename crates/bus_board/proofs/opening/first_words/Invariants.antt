use Rattle.std.proofs.Common.{◌≡◌, ◌<◌, ℕ, length, get_or}
use Rattle.bus_board.specs.Opening.{opening_word}
use Rattle.bus_board.specs.Words.{number_of}
use Rattle.bus_board.proofs.opening.first_words.Given as goal

abbrev pub invariant-loop-index : goal.invariant-loop-index
invariant-loop-index l = (length l.words.items ≡ l.index) × ((d : ℕ) → d < l.index → get_or l.words.items d 0 ≡ number_of (opening_word l.core d))
