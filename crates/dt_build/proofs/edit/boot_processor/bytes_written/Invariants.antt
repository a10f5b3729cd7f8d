use Rattle.std.proofs.Common.{◌≡◌, ◌++◌, drop, map}
use Rattle.std.specs.List.{flat_map}
use Rattle.dt_source.specs.Tree.{part_view}
use Rattle.dt_source.specs.TreeMeaning.BootProcessor.{written}
use Rattle.dt_build.proofs.edit.boot_processor.bytes_written.Given as goal

abbrev pub invariant-loop-part : goal.invariant-loop-part
invariant-loop-part l = l.bytes.items ++ flat_map written (map part_view (drop l.part-index l.value)) ≡ flat_map written (map part_view l.value)
