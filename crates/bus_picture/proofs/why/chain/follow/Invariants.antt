use Rattle.std.specs.Prelude.{count_by, is_none}
use Rattle.bus_picture.specs.Why.Chain.{bound_by}
use Rattle.bus_picture.proofs.WhyLemmas.FollowLemmas.{IsFollowed}
use Rattle.bus_picture.proofs.why.chain.follow.Given as goal

abbrev pub invariant-following : goal.invariant-following
invariant-following l = IsFollowed l.plan (bound_by l.bound) l.fn.device l.places l.devices.items l.last

abbrev pub decreases-following : goal.decreases-following
decreases-following l = count_by is_none l.places
