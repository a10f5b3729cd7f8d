use Rattle.std.proofs.Common.{◌≡◌, false, length}
use Rattle.dt_blob.specs.SourceText.{are_strings}
use Rattle.dt_blob.proofs.value_form.are_strings.Given as goal

abbrev pub invariant-loop-end : goal.invariant-loop-end
invariant-loop-end l = are_strings false l.rest ≡ are_strings false l.value

abbrev pub decreases-loop-end : goal.decreases-loop-end
decreases-loop-end l = length l.rest
