use Rattle.bus_board.proofs.Walks.{tried_passed}
use Rattle.bus_board.proofs.claiming.claim.Goals as goal

pub returns-in_default-claim_any-clause-none : goal.returns-in_default-claim_any-clause-none
returns-in_default-claim_any-clause-none c = tried_passed _ _ _ c.in_default.ensures.none c.in_default-claim_any.ensures.none
