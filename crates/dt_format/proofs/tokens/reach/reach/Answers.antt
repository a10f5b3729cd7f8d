use Rattle.std.proofs.Common.{◌≡◌, ◌∙◌, ◌+◌, ℕ, Some, true, false, ap, length, arith, get_or}
use Rattle.dt_format.specs.declared.tokens.state.Reached.{Reached}
use Rattle.dt_format.specs.Bytes.{byte_of}
use Rattle.dt_format.specs.Reach.{step}
use Rattle.dt_format.proofs.Reaching.{reach_go, reach_stop, reach_last, reach_over}
use Rattle.dt_format.proofs.tokens.reach.reach.Goals as goal

pub loop-i-preserved : goal.loop-i-preserved
loop-i-preserved c =
    reach_go c.loop-i.state c.in-Go.next (c.loop-i.i + 1) c.loop-i.i c.args.s.now c.loop-i-test.true
    (c.in-Go.ensures ∙ ap (λ (x : ℕ). step c.loop-i.state (get_or c.args.s.now c.loop-i.i 0) x) (c.byte_of.ensures ∙ ap byte_of c.from.ensures))
    ∙ c.loop-i.invariant

pub returns-in-Stop : goal.returns-in-Stop
returns-in-Stop c =
    reach_stop c.loop-i.state (c.loop-i.i + 1) c.loop-i.i c.args.s.now c.loop-i-test.true
    (c.in-Stop.ensures ∙ ap (λ (x : ℕ). step c.loop-i.state (get_or c.args.s.now c.loop-i.i 0) x) (c.byte_of.ensures ∙ ap byte_of c.from.ensures))
    ∙ c.loop-i.invariant

pub returns-in-Last : goal.returns-in-Last
returns-in-Last c =
    let len : c.loop-i.i + 2 ≡ (c.loop-i.i + 1) + 1 = omega arith in
    ap (λ (n : ℕ). Some (let r : Reached = record { len = n; state = c.loop-i.state } in r)) len
    ∙ reach_last c.loop-i.state (c.loop-i.i + 1) c.loop-i.i c.args.s.now c.loop-i-test.true
    (c.in-Last.ensures ∙ ap (λ (x : ℕ). step c.loop-i.state (get_or c.args.s.now c.loop-i.i 0) x) (c.byte_of.ensures ∙ ap byte_of c.from.ensures))
    ∙ c.loop-i.invariant

pub returns-then-may_end : goal.returns-then-may_end
returns-then-may_end c =
    let len : length c.args.s.now + 1 ≡ c.loop-i.i + 1 = omega arith in
    ap (λ (n : ℕ). Some (let r : Reached = record { len = n; state = c.loop-i.state } in r)) len
    ∙ reach_over c.loop-i.state (c.loop-i.i + 1) c.loop-i.i c.args.s.now true c.loop-i-test.false c.if-may_end.ensures ∙ c.loop-i.invariant

pub returns-else-may_end : goal.returns-else-may_end
returns-else-may_end c =
    reach_over c.loop-i.state (c.loop-i.i + 1) c.loop-i.i c.args.s.now false c.loop-i-test.false c.if-may_end.ensures ∙ c.loop-i.invariant
