use Rattle.std.proofs.Common.{◌≡◌, ◌++◌, drop}
use Rattle.std.specs.Option.{option_map}
use Rattle.dtman_blobs.specs.Saying.{numbers, unsaid, words_in}
use Rattle.dtman_blobs.proofs.saying.say_numbers.Given as goal

-- what is there and what the words that are left say; none that was passed says nothing
abbrev pub invariant-loop-word : goal.invariant-loop-word
invariant-loop-word l = record {
  said : option_map (λ more. l.value.items ++ more) (numbers l.notation l.width (words_in (drop l.word-index l.words)))
      ≡ numbers l.notation l.width (words_in l.words);
  first : unsaid l.notation l.width (words_in (drop l.word-index l.words)) ≡ unsaid l.notation l.width (words_in l.words);
}
