use Rattle.std.proofs.Common.{◌≡◌, ◌++◌, ◌≤◌, drop}
use Rattle.dt_live.specs.Rows.{node_path}
use Rattle.dt_build.specs.Private.Made.{all_phandles}
use Rattle.dt_build.specs.Private.Places.{offsets_of}
use Rattle.dt_build.specs.Private.Values.{founds_of}
use Rattle.dt_build.proofs.places.put_references.Given as goal

abbrev pub invariant-loop-part : goal.invariant-loop-part
invariant-loop-part l = record {
  few : l.used ≤ l.part-index;
  offsets : l.offsets.items ++ offsets_of (all_phandles l.draft) l.offset (founds_of (node_path l.draft.live) (drop l.part-index l.parts) (drop l.used l.targets))
      ≡ l.fn.offsets.items ++ offsets_of (all_phandles l.draft) 0 (founds_of (node_path l.draft.live) l.parts l.targets);
}
