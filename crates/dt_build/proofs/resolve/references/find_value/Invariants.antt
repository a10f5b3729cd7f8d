use Rattle.std.proofs.Common.{List, map, drop}
use Rattle.dt_source.specs.Tree.{part_view}
use Rattle.dt_source.specs.TreeMeaning.References.{Found}
use Rattle.dt_build.specs.Edit.Said.{tree_of}
use Rattle.dt_build.proofs.ResolveLemmas.FindingSteps.{IsFinding}
use Rattle.dt_build.proofs.resolve.references.find_value.Given as goal

abbrev pub invariant-loop-part : goal.invariant-loop-part
invariant-loop-part l =
    (fs : List Found) × IsFinding l.plugin l.live (tree_of l.live) fs (map part_view (drop l.part-index l.value)) (map part_view l.value) l.fn.targets l.targets
