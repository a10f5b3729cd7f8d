use Rattle.std.proofs.Common.{◌≡◌, ◌++◌, drop}
use Rattle.dtman_blobs.specs.Difference.Private.Orders.{shared_properties}
use Rattle.dtman_blobs.specs.Difference.Private.Views.{now_of}
use Rattle.dtman_blobs.proofs.difference.ordering.shared_properties.Given as goal

abbrev pub invariant-loop-property : goal.invariant-loop-property
invariant-loop-property l =
    now_of l.names.items ++ shared_properties l.theirs.properties (drop l.property-index l.property-items) ≡ shared_properties l.theirs.properties l.property-items
