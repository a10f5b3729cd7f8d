use Rattle.std.proofs.Common.{◌≡◌, List, Some, None, length, ap, ◌∙◌, arith}
use Rattle.bus_plan.specs.Plan.{PlannedDevice}
use Rattle.bus_core.specs.Due.{is_quiet}
use Rattle.bus_manager.specs.Prober.{IsLawfulReport}
use Rattle.bus_manager.specs.Seen.{sees}
use Rattle.bus_manager.proofs.Few.{only-memory}
use Rattle.bus_manager.proofs.Accepted.{lawful-accepted}
use Rattle.bus_manager.proofs.Forced.{taken-forced}
use Rattle.bus_manager.proofs.Landing.{landed-quiet, driven}
use Rattle.bus_manager.proofs.alone.drive.Goals as goal

pub returns-in-Ok-None-clause-quiet : goal.returns-in-Ok-None-clause-quiet
returns-in-Ok-None-clause-quiet g c =
    let n = rw c.in-Ok-None.field-0-is at c.in-Ok-None.ensures.none
    in λ _. (n.0, ap (λ k. is_quiet k.plan k.state) n.0 ∙ landed-quiet c.args.keeper.now c.requires.landed n.1)

pub returns-in-Err-clause-err : goal.returns-in-Err-clause-err
returns-in-Err-clause-err g c =
    only-memory c.args.keeper.now c.in-Err.refusal c.check.ensures (omega (arith, c.check-2.ensures.few, ap length c.requires.plan)) (omega (arith, c.requires.few, ap length c.requires.plan)) c.in-Err.ensures.refused

pub unreachable-requires : goal.unreachable-requires
unreachable-requires g c =
    let taken = rw c.in-Ok-Some.field-0-is at c.in-Ok-Some.ensures.some
    in let P : List PlannedDevice → Type 0 = λ plan. IsLawfulReport plan (sees c.in-Ok-Some.flight.1) c.in-Ok-Some.flight.0.device c.probe-note.result.0
    in let lawful : P c.args.keeper.now.plan = coe 1 0 (i. P (c.requires.plan i)) c.probe-note.ensures.lawful
    in let accepted = lawful-accepted c.args.keeper.now c.take.new.self c.in-Ok-Some.flight.0 c.in-Ok-Some.flight.1 c.probe-note.result.0 c.check.ensures.places taken lawful
    in let refused : Some c.in-Err-finish.field-0 ≡ None = c.in-Err-finish.ensures.refused ∙ accepted
    in cc

pub returns-in-Ok-Bound-clause-driven : goal.returns-in-Ok-Bound-clause-driven
returns-in-Ok-Bound-clause-driven g c =
    let taken = rw c.in-Ok-Some.field-0-is at c.in-Ok-Some.ensures.some
    in λ _. driven c.args.keeper.now c.take.new.self c.finish.new.self _ _ _ c.check.ensures (omega (arith, c.check-2.ensures.few, ap length c.requires.plan)) (omega (arith, c.requires.few, ap length c.requires.plan)) c.requires.landed
    taken c.in-Ok-Bound.ensures.finished

pub returns-in-Ok-clause-driven : goal.returns-in-Ok-clause-driven
returns-in-Ok-clause-driven g c =
    let taken = rw c.in-Ok-Some.field-0-is at c.in-Ok-Some.ensures.some
    in λ _. driven c.args.keeper.now c.take.new.self c.finish.new.self _ _ _ c.check.ensures (omega (arith, c.check-2.ensures.few, ap length c.requires.plan)) (omega (arith, c.requires.few, ap length c.requires.plan)) c.requires.landed
    taken c.in-Ok.ensures.finished

pub probe-note-requires-clause-forced : goal.probe-note-requires-clause-forced
probe-note-requires-clause-forced g c =
    let taken = rw c.in-Ok-Some.field-0-is at c.in-Ok-Some.ensures.some
    in λ _ _. taken-forced c.args.keeper.now c.take.new.self c.args.plan.now c.check.ensures c.requires.plan c.in-Ok-Some.flight.0 c.in-Ok-Some.flight.1 taken
