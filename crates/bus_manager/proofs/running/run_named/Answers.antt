use Rattle.std.proofs.Common.{None, ap, ◌∙◌}
use Rattle.std.specs.Prelude.{replicate}
use Rattle.bus_manager.proofs.NotesLemmas.{no-notes}
use Rattle.bus_manager.proofs.running.run_named.Goals as goal

pub place_some-requires-clause-notes : goal.place_some-requires-clause-notes
place_some-requires-clause-notes g c =
    λ _ _. no-notes (g.P.Prober.attests c.args.prober.now c.args.plan.now) c.args.plan.now c.in_ok-notes.notes.items (c.in_ok-notes.ensures ∙ ap (λ n. replicate n None) c.len.ensures)
