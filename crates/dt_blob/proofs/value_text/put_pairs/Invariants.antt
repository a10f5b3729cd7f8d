use Rattle.std.proofs.Common.{◌≡◌, ◌++◌, ◌∷◌, false, drop}
use Rattle.dt_blob.specs.SourceText.{pairs_text}
use Rattle.dt_blob.proofs.value_text.put_pairs.Given as goal

abbrev pub invariant-loop-byte : goal.invariant-loop-byte
invariant-loop-byte l = l.out.items ++ pairs_text l.later (drop l.byte-index l.value) ≡ l.fn.out.items ++ 91 ∷ pairs_text false l.value
