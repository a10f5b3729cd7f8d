use Rattle.std.proofs.Common.{◌≡◌, ◌++◌, drop, length, map}
use Rattle.std.specs.Prelude.{All}
use Rattle.std.specs.List.{flat_map}
use Rattle.dt_live.specs.Making.Places.{totals}
use Rattle.dt_build.specs.Resolve.Targets.{IsKnown}
use Rattle.dt_build.specs.Private.Places.{offsets}
use Rattle.dt_build.proofs.PlaceSteps.{offsets_left}
use Rattle.dt_build.proofs.places.all_references.Given as goal

abbrev pub invariant-loop-property : goal.invariant-loop-property
invariant-loop-property l = record {
  known : All (IsKnown l.draft.live) l.targets;
  starts : l.starts.items ++ totals (length l.offsets.items) (map length (offsets_left l.draft (drop l.property-index l.draft.in_preorder.properties.items) l.targets)) ≡ totals 0 (map length (offsets l.draft));
  offsets : l.offsets.items ++ flat_map (λ xs. xs) (offsets_left l.draft (drop l.property-index l.draft.in_preorder.properties.items) l.targets) ≡ flat_map (λ xs. xs) (offsets l.draft);
}
