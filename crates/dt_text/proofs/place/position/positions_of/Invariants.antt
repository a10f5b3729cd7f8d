use Rattle.std.proofs.Common.{◌≡◌, ◌++◌, drop, map}
use Rattle.dt_text.specs.Place.Positions.{IsCursor, site_at, site_of}
use Rattle.dt_text.proofs.place.position.positions_of.Given as goal

-- those so far and those that are left are all
abbrev pub invariant-loop-place : goal.invariant-loop-place
invariant-loop-place l = record {
  read : IsCursor l.text l.cursor.origin l.cursor.start l.cursor.end;
  told : map site_of l.found.items ++ map (site_at l.text) (drop l.place-index l.places) ≡ map (site_at l.text) l.places;
}
