use Rattle.std.proofs.Common.{◌≡◌, ◌++◌, ◌∷◌, false, length}
use Rattle.dt_blob.specs.SourceText.{strings_text}
use Rattle.dt_blob.proofs.value_text.put_strings.Given as goal

abbrev pub invariant-loop-plain : goal.invariant-loop-plain
invariant-loop-plain l = l.out.items ++ strings_text false l.rest ≡ l.fn.out.items ++ 34 ∷ strings_text false l.value

abbrev pub decreases-loop-plain : goal.decreases-loop-plain
decreases-loop-plain l = length l.rest
