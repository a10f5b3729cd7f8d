use Rattle.std.proofs.Common.{◌≡◌, ◌++◌, length, map, drop}
use Rattle.std.specs.List.{flat_map}
use Rattle.dt_source.specs.Tree.{item_view, part_view}
use Rattle.dt_build.specs.Edit.Fragments.{first_names, target_values}
use Rattle.dt_build.proofs.edit.fragments.fragments_of.Given as goal

abbrev pub invariant-loop-item : goal.invariant-loop-item
invariant-loop-item l = record {
  names : map (λ v. v.items) l.fragments.names.items ≡ first_names (length l.fragments.targets.items);
  targets : map (λ v. map part_view v.parts.items) l.fragments.targets.items ++ flat_map target_values (map item_view (drop l.item-index l.items))
      ≡ flat_map target_values (map item_view l.items);
}
