use Rattle.std.proofs.Common.{◌≡◌, ◌<◌, ℕ, length, vec_len}
use Rattle.std.specs.Prelude.{vec_capacity}
use Rattle.std.specs.Slots.{slots_items}
use mathlib.Core.Option.{some}
use lib.ListN.{get_elem?}
use Rattle.bus_board.specs.Words.{word_at, word_of}
use Rattle.bus_board.proofs.closing.ended.Given as goal

abbrev pub invariant-loop-index : goal.invariant-loop-index
invariant-loop-index l = (length l.room.items ≡ l.index) × (vec_len l.room ≡ l.index) × (vec_capacity l.room ≡ vec_capacity l.initial.room)
    × ((d : ℕ) → d < l.index → (w : ℕ) × (get_elem? (slots_items l.closed.words) d ≡ some w) × (word_at l.room.items d ≡ word_of w))
