use Rattle.std.proofs.Common.{◌≡◌, take}
use Rattle.std.specs.Prelude.{map}
use Rattle.dt_source.specs.Words.{label_bytes}
use Rattle.dt_source.proofs.labels.labels_of.Given as goal

abbrev pub invariant-loop-label : goal.invariant-loop-label
invariant-loop-label l = map (λ b. b.now) l.list.items ≡ map (label_bytes l.text) (take l.label-index l.labels)
