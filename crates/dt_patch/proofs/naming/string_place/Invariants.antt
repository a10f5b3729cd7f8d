use Rattle.std.proofs.Common.{◌≡◌, ◌+◌, drop}
use Rattle.std.specs.Option.{option_map}
use Rattle.dt_blob.specs.Strings.{ended, lowest_place}
use Rattle.dt_patch.proofs.naming.string_place.Given as goal

abbrev pub invariant-loop-at : goal.invariant-loop-at
invariant-loop-at l = option_map (λ k. l.at + k) (lowest_place (ended l.name) (drop l.at l.strings)) ≡ lowest_place (ended l.name) l.strings
