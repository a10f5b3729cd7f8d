use Rattle.std.proofs.Common.{◌≡◌, ◌+◌, ◌*◌, ◌≤◌, false, length}
use Rattle.dt_blob.specs.SourceText.{strings_text}
use Rattle.dt_blob.proofs.value_text.strings_len.Given as goal

abbrev pub invariant-loop-plain : goal.invariant-loop-plain
invariant-loop-plain l = record {
  left : l.len + length (strings_text false l.rest) ≡ length (strings_text false l.value);
  fits : l.len + 5 * length l.rest ≤ 5 * length l.value;
}

abbrev pub decreases-loop-plain : goal.decreases-loop-plain
decreases-loop-plain l = length l.rest
