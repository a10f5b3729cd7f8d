use Rattle.std.proofs.Common.{◌≡◌, true, sym}
use Rattle.bus_board.specs.Ends.{EndsAs}
use Rattle.bus_manager.proofs.boarded.finish.Goals as goal

pub finish_quiet-requires-clause-ends : goal.finish_quiet-requires-clause-ends
finish_quiet-requires-clause-ends g c =
    let quiet : c.close-end.result.quiet ≡ true = c.if-end.true in
    let words = sym c.deref.ensures.value in
    λ _ _. (c.args.own.view, coe 0 1 (i. EndsAs (c.requires.plan i) c.args.own.view (words i) (quiet i)) c.close-end.ensures)
