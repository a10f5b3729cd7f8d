use Rattle.std.proofs.Common.{◌≡◌, ◌++◌, drop}
use Rattle.dtman_blobs.specs.Saying.{texts, words_in}
use Rattle.dtman_blobs.proofs.saying.say_texts.Given as goal

-- what is there and what the words that are left say
abbrev pub invariant-loop-word : goal.invariant-loop-word
invariant-loop-word l = l.value.items ++ texts (words_in (drop l.word-index l.words)) ≡ texts (words_in l.words)
