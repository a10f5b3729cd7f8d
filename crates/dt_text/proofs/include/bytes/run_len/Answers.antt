use Rattle.std.proofs.Common.{sym, arith, length}
use Rattle.std.proofs.lemmas.List.Sums.{prefix_len_is}
use Rattle.dt_text.specs.Include.Bytes.{passes}
use Rattle.dt_text.proofs.include.bytes.run_len.Goals as goal

pub returns-then-not-passes : goal.returns-then-not-passes
returns-then-not-passes c = sym (prefix_len_is (passes c.args.class) c.args.s.now c.loop-i.i 0 (omega arith) c.loop-i.invariant (λ within. sym c.if-not-passes.ensures))

pub returns : goal.returns
returns c =
    sym (prefix_len_is (passes c.args.class) c.args.s.now (length c.args.s.now) 0 (omega arith) (λ k before. c.loop-i.invariant k (omega arith)) (λ within. absurd (omega arith)))
