use Rattle.std.proofs.Common.{◌≡◌, drop}
use Rattle.dtman_blobs.specs.Saying.{are_numbers, words_in}
use Rattle.dtman_blobs.proofs.saying.are_numbers.Given as goal

-- the words that are left decide
abbrev pub invariant-loop-word : goal.invariant-loop-word
invariant-loop-word l = are_numbers (words_in (drop l.word-index l.words)) ≡ are_numbers (words_in l.words)
