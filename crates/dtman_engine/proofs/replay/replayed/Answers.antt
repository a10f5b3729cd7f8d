-- At each return the callee's clause comes before the search, so that a wrong body fails there at once.
use Rattle.std.proofs.Common.{◌≡◌, ◌⊎◌, Ok, Err, rules}
use Rattle.bus_core.specs.Replay.{replay_of}
use Rattle.bus_core.specs.declared.refusal.Refusal.TheVariants.{NoMemory}
use Rattle.dtman_engine.proofs.replay.replayed.Goals as goal

pub returns : goal.returns
returns c =
    let replayed : replay_of c.in_ok-plan.plan c.as_slice.result.now ≡ Ok c.in_ok-core.core =
    c.in_ok-core.ensures.replayed in
    search rules

pub returns-in_err-plan : goal.returns-in_err-plan
returns-in_err-plan c = search rules

pub returns-in_err-events : goal.returns-in_err-events
returns-in_err-events c =
    let read = c.in_ok-plan.ensures in
    let refused = c.in_err-events.ensures.schedule in
    let told = c.from_residual-in_err-events in
    search rules

pub returns-in_err-core : goal.returns-in_err-core
returns-in_err-core c =
    let e = c.in_err-core.field-0.0 in
    let refused : (e ≡ (0, NoMemory)) ⊎ (replay_of c.in_ok-plan.plan c.as_slice.result.now ≡ Err e) =
    c.in_err-core.ensures.refused in
    search rules
