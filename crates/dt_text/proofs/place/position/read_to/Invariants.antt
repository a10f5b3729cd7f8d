use Rattle.std.proofs.Common.{◌≤◌, ◌-◌}
use Rattle.dt_text.specs.Place.Positions.{IsCursor}
use Rattle.dt_text.proofs.place.position.read_to.Given as goal

abbrev pub invariant-loop-feed : goal.invariant-loop-feed
invariant-loop-feed l = record {
  read : IsCursor l.text l.origin l.start l.read;
  within : l.read ≤ l.end;
}

abbrev pub decreases-loop-feed : goal.decreases-loop-feed
decreases-loop-feed l = l.end - l.read
