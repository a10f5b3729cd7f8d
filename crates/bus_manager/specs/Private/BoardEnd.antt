-- What the words of a board say at its end.
use Rattle.std.specs.Prelude.{ℕ, Bool, List}
use Rattle.bus_board.specs.Words.{word_at, is_bound_word}
use Rattle.bus_board.specs.declared.words.Word.{Word}

-- the devices whose words are BOUND
abbrev pub bound_by_words : List Word → ℕ → Bool
bound_by_words words d = is_bound_word (word_at words d)
