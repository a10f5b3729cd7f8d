use Rattle.std.proofs.Common.{◌≡◌, false, take}
use Rattle.std.specs.List.{All}
use Rattle.dt_tree.specs.Path.{is_slash}
use Rattle.dt_overlay.proofs.symbol_target.split_name.Given as goal

abbrev pub invariant-loop-at : goal.invariant-loop-at
invariant-loop-at l = All (λ x. is_slash x ≡ false) (take l.at l.names)
