use Rattle.std.proofs.Common.{◌≡◌, ◌-◌}
use Rattle.dt_patch.specs.View.Cells.{string_in}
use Rattle.dt_patch.proofs.view.cells.string.Given as goal

abbrev pub invariant-loop : goal.invariant-loop
invariant-loop l = string_in l.value l.place ≡ string_in l.rest (l.place - l.counter)
