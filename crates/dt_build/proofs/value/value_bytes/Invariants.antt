use Rattle.std.proofs.Common.{◌≡◌, ◌++◌, ◌≤◌, drop}
use Rattle.dt_source.specs.TreeMeaning.Fixups.{value_bytes}
use Rattle.dt_live.specs.Rows.{node_path}
use Rattle.dt_build.specs.Private.Made.{all_phandles}
use Rattle.dt_build.specs.Private.Values.{founds_of}
use Rattle.dt_build.proofs.value.value_bytes.Given as goal

abbrev pub invariant-loop-part : goal.invariant-loop-part
invariant-loop-part l = record {
  few : l.used ≤ l.part-index;
  bytes : l.bytes.items ++ value_bytes (all_phandles l.draft) (founds_of (node_path l.draft.live) (drop l.part-index l.value) (drop l.used l.targets))
      ≡ value_bytes (all_phandles l.draft) (founds_of (node_path l.draft.live) l.value l.targets);
}
