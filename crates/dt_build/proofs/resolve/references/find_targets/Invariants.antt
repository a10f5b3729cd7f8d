use Rattle.std.proofs.Common.{List, map, drop}
use Rattle.dt_source.specs.TreeMeaning.Edits.{Definition}
use Rattle.dt_source.specs.TreeMeaning.References.{Found}
use Rattle.dt_build.specs.Edit.Said.{tree_of}
use Rattle.dt_build.specs.Resolve.Private.ReadProperty.{read_property}
use Rattle.dt_build.proofs.ResolveLemmas.FindingSteps.{IsWalking}
use Rattle.dt_build.proofs.resolve.references.find_targets.Given as goal

abbrev pub invariant-loop-property : goal.invariant-loop-property
invariant-loop-property l =
    (es : List (Definition (List Found)))
    × IsWalking l.plugin l.live (tree_of l.live) es (map (read_property l.live.nodes.items) (drop l.property-index l.properties)) (map (read_property l.live.nodes.items) l.properties) l.targets
