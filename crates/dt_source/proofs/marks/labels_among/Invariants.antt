use Rattle.std.proofs.Common.{◌≡◌, take}
use Rattle.std.specs.Prelude.{map}
use Rattle.dt_source.specs.Marks.{labels_in}
use Rattle.dt_source.specs.Words.{label_bytes}
use Rattle.dt_source.proofs.marks.labels_among.Given as goal

abbrev pub invariant-loop-mark : goal.invariant-loop-mark
invariant-loop-mark l = map (λ b. b.now) l.list.items ≡ map (label_bytes l.text) (labels_in (take l.mark-index l.marks))
