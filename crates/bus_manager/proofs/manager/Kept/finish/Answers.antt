use Rattle.std.proofs.Common.{◌≡◌, Some, None, refl, sym, ap, ◌∙◌}
use Rattle.bus_core.specs.Step.{finish_refusal}
use Rattle.bus_manager.specs.Private.Turn.{tells_settled}
use Rattle.bus_manager.proofs.Told.{settled-told}
use Rattle.bus_manager.proofs.manager.Kept.finish.Goals as goal

pub returns-in-Ok : goal.returns-in-Ok
returns-in-Ok g c =
    let told = c.in-Ok.ensures in
    record {
      lawful = λ _. (told.finished, c.tells_settled.ensures ∙ ap tells_settled told.reply ∙ settled-told c.finish.new.self.plan c.finish.new.self.state c.args.ticket.now.device c.args.report);
      refused = λ some. absurd (some (sym told.refused));
    }

pub returns-in-Err : goal.returns-in-Err
returns-in-Err g c =
    let told = c.in-Err.ensures in
    let some : Some c.in-Err.field-0 ≡ finish_refusal c.args.self.now.keeper.plan c.args.self.now.keeper.state c.args.ticket.now c.args.report = told.refused in
    record {
      lawful = λ none. let bad : Some c.in-Err.field-0 ≡ None = some ∙ none in absurd (cc);
      refused = λ _. (told.err, refl);
    }
