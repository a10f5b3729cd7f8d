use Rattle.std.proofs.lemmas.List.Elements.{All-pop}
use Rattle.bus_manager.specs.declared.worker.Noted.{Noted}
use Rattle.bus_manager.specs.Private.Notes.{IsShown}
use Rattle.bus_manager.proofs.notes.place_some.Goals as goal

pub placing-preserved : goal.placing-preserved
placing-preserved g c = record {
  notes_are = c.place_one.ensures;
  found_are = (All-pop (λ (n : Noted g.row.P-Note.Denot). IsShown (g.P.Prober.attests c.args.prober.now c.args.plan.now n.device) c.args.plan.now n.device n.note)
      c.placing.found.items c.pop.new.self.items c.pop.result c.pop.ensures.items c.placing.invariant.found_are).0;
}
