use Rattle.std.proofs.Common.{sym, subst}
use Rattle.bus_picture.specs.Why.Private.Places.{AreFrom}
use Rattle.bus_picture.proofs.why.chain.next_chain.Goals as goal

pub clear-requires : goal.clear-requires
clear-requires c = subst (λ xs. AreFrom 0 c.follow.new.places xs) (sym c.as_slice.ensures.value) c.in_ok-cause.ensures.places
