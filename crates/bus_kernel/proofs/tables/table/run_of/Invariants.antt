use Rattle.std.proofs.Common.{ℕ, List, ◌++◌, length}
use Rattle.bus_kernel.specs.Private.Views.{texts}
use Rattle.bus_kernel.specs.Private.Search.{Runs}
use Rattle.bus_kernel.proofs.tables.table.run_of.Given as goal

abbrev pub invariant-loop-string : goal.invariant-loop-string
invariant-loop-string l = (strings : List (List ℕ)) (last : List ℕ) → Runs l.size l.rest strings last
    → Runs l.size l.bytes (texts l.strings.items ++ strings) last

abbrev pub decreases-loop-string : goal.decreases-loop-string
decreases-loop-string l = length l.rest
