-- What `replay_bytes` answers is what is given, or want of memory.
use Rattle.std.proofs.Common.{inl}
use Rattle.dtman_c.specs.Crossing.{OrNoMemory}
use Rattle.dtman_c.specs.Engines.{IsReplayAnswer}
use Rattle.dtman_c.proofs.EngineLemmas.{replayed, handed, wanting}
use Rattle.dtman_c.proofs.bus.dtman_replay.Goals as goal

pub returns-in-Ok : goal.returns-in-Ok
returns-in-Ok c =
    let r = c.replay_bytes.result in
    let of = c.replay_bytes.ensures in
    handed (λ bytes. bytes.items) r (OrNoMemory (IsReplayAnswer c.args.plan.now c.args.schedule.now)) c.args.out.now c.give.new.out c.give.result
    (inl (replayed (λ bytes. bytes.items) r c.args.plan.now c.args.schedule.now of.answer of.history))
    c.give.ensures

pub returns-in-Err : goal.returns-in-Err
returns-in-Err c =
    wanting c.in-Err.fault (IsReplayAnswer c.args.plan.now c.args.schedule.now) c.args.out.now c.give-in-Err.new.out c.give-in-Err.result c.in-Err.ensures
    c.give-in-Err.ensures
