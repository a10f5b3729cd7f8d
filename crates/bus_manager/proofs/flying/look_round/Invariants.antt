use Rattle.std.proofs.Common.{◌≡◌, []}
use Rattle.bus_plan.specs.Plan.{suppliers_of}
use Rattle.bus_board.specs.Shown.{IsOf}
use Rattle.bus_manager.specs.Private.Flying.{HasLooked}
use Rattle.bus_manager.specs.Private.Notes.{AreForced}
use Rattle.bus_manager.specs.Seen.{sees}
use Rattle.bus_manager.proofs.flying.look_round.Given as goal

abbrev pub invariant-loop-index : goal.invariant-loop-index
invariant-loop-index l = record {
  of : IsOf l.board l.seat;
  looked : HasLooked l.seat.view l.device l.seen (suppliers_of l.plan l.device) l.index;
  forced : AreForced l.plan (sees l.seen);
  owed : l.seat.view.owed ≡ [];
}
