use Rattle.std.proofs.Common.{◌≡◌, ◌-◌, ◌++◌}
use Rattle.dt_blob.specs.SourceText.{tabs}
use Rattle.dt_blob.proofs.printing.put_tabs.Given as goal

abbrev pub invariant-loop-level : goal.invariant-loop-level
invariant-loop-level l = l.out.items ++ tabs (l.depth - l._level) ≡ l.fn.out.items ++ tabs l.depth
