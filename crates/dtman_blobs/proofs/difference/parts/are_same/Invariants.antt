use Rattle.std.proofs.Common.{◌≡◌, length}
use Rattle.dtman_blobs.specs.Difference.Private.Left.{seen_left}
use Rattle.dtman_blobs.specs.Difference.Private.Tests.{same_parts}
use Rattle.dtman_blobs.proofs.difference.parts.are_same.Given as goal

-- what is left is the same where all is
abbrev pub invariant-loop-part : goal.invariant-loop-part
invariant-loop-part l = same_parts (seen_left l.first) (seen_left l.second) ≡ same_parts (seen_left l.initial.first) (seen_left l.initial.second)

abbrev pub decreases-loop-part : goal.decreases-loop-part
decreases-loop-part l = length l.first.rest.now
