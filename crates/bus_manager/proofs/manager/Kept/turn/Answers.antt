use Rattle.std.proofs.Common.{length, ap, sym, ◌∙◌, arith}
use Rattle.std.specs.Prelude.{nat_lt}
use Rattle.bus_manager.specs.Private.Counts.{open_flights}
use Rattle.bus_manager.proofs.Few.{only-memory}
use Rattle.bus_manager.proofs.Forced.{taken-forced, taken-within}
use Rattle.bus_manager.proofs.Landing.{unflown-quiet}
use Rattle.bus_manager.proofs.manager.Kept.turn.Goals as goal

pub returns-in-Err-clause-err : goal.returns-in-Err-clause-err
returns-in-Err-clause-err g c =
    only-memory c.args.self.now.keeper c.in-Err.refusal c.check.ensures (omega (arith, c.check-2.ensures.few, ap length c.plan.ensures, ap length c.core.ensures.plan)) (omega (arith, c.args.self.now.unabandoned)) c.in-Err.ensures.refused

pub returns-in-Ok-None-2-clause-turn : goal.returns-in-Ok-None-2-clause-turn
returns-in-Ok-None-2-clause-turn g c =
    let idle = rw c.in-Ok-None.field-0-is at c.in-Ok-None.ensures.none
    in (idle.0, unflown-quiet c.args.self.now.keeper (ap (λ k. nat_lt 0 (open_flights k.state)) (sym idle.0) ∙ sym c.is_flying.ensures ∙ c.if-is_flying.false) idle.1)

pub returns-in-Ok-Some-clause-flight : goal.returns-in-Ok-Some-clause-flight
returns-in-Ok-Some-clause-flight g c =
    let taken = rw c.in-Ok-Some.field-0-is at c.in-Ok-Some.ensures.some
    in (taken-within c.args.self.now.keeper c.take.new.self _ c.args.self.now.named _ _ taken, taken-forced c.args.self.now.keeper c.take.new.self _ c.check.ensures c.args.self.now.named _ _ taken)
