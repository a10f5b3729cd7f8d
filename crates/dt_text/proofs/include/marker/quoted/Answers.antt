use Rattle.std.proofs.Common.{ℕ, ap, arith, drop, take, ◌∙◌}
use Rattle.dt_text.proofs.IncludeLemmas.MarkerWords.{name_long, name_open, name_short}
use Rattle.dt_text.proofs.include.marker.quoted.Goals as goal

pub returns-in_err-len : goal.returns-in_err-len
returns-in_err-len c = rw c.from_residual.ensures (name_open c.args.s.now c.quoted_len.result c.if-not-begins.ensures.value c.quoted_len.ensures c.in_err-len.was)

pub returns-then-len-gt-MAX_PATH : goal.returns-then-len-gt-MAX_PATH
returns-then-len-gt-MAX_PATH c =
    name_long c.args.s.now c.quoted_len.result c.in_ok-len.len c.if-not-begins.ensures.value c.quoted_len.ensures c.in_ok-len.was c.if-len-gt-MAX_PATH.true

pub returns : goal.returns
returns c =
    name_short c.args.s.now c.behind.result.now c.quoted_len.result c.in_ok-len.len c.if-not-begins.ensures.value c.quoted_len.ensures c.in_ok-len.was (omega arith)
    (c.behind.ensures ∙ ap (drop 1) (c.front.ensures ∙ ap (λ (n : ℕ). take n c.args.s.now) c.saturating_sub.ensures))
