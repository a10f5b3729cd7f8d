-- What `plan_bytes` answers is what is given, or want of memory.
use Rattle.std.proofs.Common.{inl}
use Rattle.dtman_c.specs.Crossing.{OrNoMemory}
use Rattle.dtman_c.specs.Engines.{IsPlanAnswer}
use Rattle.dtman_c.proofs.EngineLemmas.{planned, handed, wanting}
use Rattle.dtman_c.proofs.bus.dtman_plan.Goals as goal

pub returns-in-Ok : goal.returns-in-Ok
returns-in-Ok c =
    let r = c.plan_bytes.result in
    let of = c.plan_bytes.ensures in
    handed (λ bytes. bytes.items) r (OrNoMemory (IsPlanAnswer c.args.blob.now c.args.drivers.now)) c.args.out.now c.give.new.out c.give.result
    (inl (planned (λ bytes. bytes.items) r c.args.blob.now c.args.drivers.now of.answer of.held of.refused of.header))
    c.give.ensures

pub returns-in-Err : goal.returns-in-Err
returns-in-Err c =
    wanting c.in-Err.fault (IsPlanAnswer c.args.blob.now c.args.drivers.now) c.args.out.now c.give-in-Err.new.out c.give-in-Err.result c.in-Err.ensures
    c.give-in-Err.ensures
