use Rattle.std.proofs.Common.{◌≡◌, ◌&&◌}
use Rattle.std.specs.List.{list_any}
use Rattle.dt_live.specs.Rows.{is_standing}
use Rattle.dt_build.specs.Resolve.Private.Gone.{goes_by, is_target, rows_to}
use Rattle.dt_build.proofs.resolve.gone.gone_nodes.Given as goal

abbrev pub invariant-loop-row : goal.invariant-loop-row
invariant-loop-row l =
    l.gone.items ≡ rows_to (λ n. is_standing l.standing.live n && goes_by (λ m. list_any (is_target m) l.targets) l.standing l.symbols n) l.row
