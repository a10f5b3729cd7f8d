use Rattle.std.proofs.Common.{◌≡◌, drop}
use Rattle.dt_blob.specs.Strings.{begins, ended}
use Rattle.dt_patch.proofs.naming.begins_with.Given as goal

abbrev pub invariant-loop-at : goal.invariant-loop-at
invariant-loop-at l = begins (ended (drop l.at l.name)) (drop l.at l.text) ≡ begins (ended l.name) l.text
