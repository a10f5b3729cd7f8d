use Rattle.std.specs.BTreeMap.{get}
use Rattle.std.specs.Ordering.{nat_cmp}
use Rattle.dt_overlay.proofs.FragmentRows.{HasFirsts}
use Rattle.dt_overlay.proofs.fragments.phandle_nodes.Given as goal

abbrev pub invariant-loop-row : goal.invariant-loop-row
invariant-loop-row l = record { firsts : HasFirsts l.base (get nat_cmp l.found) l.row }
