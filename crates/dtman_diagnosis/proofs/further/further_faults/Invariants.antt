use Rattle.std.proofs.Common.{◌≡◌, ◌≤◌, vec_len}
use Rattle.dtman_diagnosis.specs.Ascent.{Ascend}
use Rattle.dtman_diagnosis.proofs.Ascending.{last_start}
use Rattle.dtman_diagnosis.proofs.further.further_faults.Given as goal

abbrev pub invariant-loop-before : goal.invariant-loop-before
invariant-loop-before g l =
    (vec_len l.found ≤ l.before) × Ascend l.fn.first.span.start l.found.items ×
    (l.last.span.start ≡ last_start l.fn.first.span.start l.found.items)
