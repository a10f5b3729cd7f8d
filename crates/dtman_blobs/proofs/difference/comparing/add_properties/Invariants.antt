use Rattle.std.proofs.Common.{◌≡◌, ◌++◌, drop}
use Rattle.dtman_blobs.specs.Difference.Named.{named_by}
use Rattle.dtman_blobs.specs.Difference.Private.Differences.{properties_alone}
use Rattle.dtman_blobs.specs.Difference.Private.Things.{is_first}
use Rattle.dtman_blobs.proofs.difference.comparing.add_properties.Given as goal

abbrev pub invariant-loop-property : goal.invariant-loop-property
invariant-loop-property l =
    l.differences.items ++ properties_alone (is_first l.side) l.path (named_by l.ours.naming.now) (named_by l.theirs.naming.now) (drop l.property-index l.property-items) l.theirs.node.now.properties
    ≡ l.initial.differences.items ++ properties_alone (is_first l.side) l.path (named_by l.ours.naming.now) (named_by l.theirs.naming.now) l.property-items l.theirs.node.now.properties
