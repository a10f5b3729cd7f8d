use Rattle.std.proofs.Common.{◌≡◌, map}
use Rattle.std.specs.Prelude.{All, filter}
use Rattle.std.specs.List.{range_with_len}
use Rattle.bus_picture.specs.Why.Chain.{bound_by, first_of, waits, IsChainOf}
use Rattle.bus_picture.specs.Why.Private.Places.{AreClear}
use Rattle.bus_picture.proofs.why.why.add_chains.Given as goal

abbrev pub invariant-loop-place : goal.invariant-loop-place
invariant-loop-place l = record {
  clear : AreClear l.places;
  listed : map first_of l.chains.items ≡ filter (waits l.plan (bound_by l.bound)) (range_with_len 0 l.place);
  each : All (IsChainOf l.plan (bound_by l.bound)) l.chains.items;
}
