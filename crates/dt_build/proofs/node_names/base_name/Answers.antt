use Rattle.std.proofs.Common.{◌≡◌, ◌==◌, ℕ, Bool, take, sym, ap, ◌∙◌, arith}
use Rattle.std.specs.List.{position_or_len}
use Rattle.std.proofs.lemmas.List.Sums.{position_or_len_is}
use Rattle.std.proofs.lemmas.List.{take_all}
use Rattle.dt_build.proofs.node_names.base_name.Goals as goal

abbrev is_at : ℕ → Bool
is_at c = c == 64

pub returns-then-c-eq64 : goal.returns-then-c-eq64
returns-then-c-eq64 c =
    let name = c.args.name.now in
    let at : position_or_len is_at name ≡ c.loop-i.i = position_or_len_is is_at name c.loop-i.i 0 (omega (arith, c.loop-i-test.true)) c.loop-i.invariant (λ lt. ap is_at c.if-c-eq64.true) in
    ap (λ n. take n name) (sym at)

pub returns : goal.returns
returns c =
    let name = c.args.name.now in
    let at : position_or_len is_at name ≡ c.loop-i.i = position_or_len_is is_at name c.loop-i.i 0 (omega (arith, c.loop-i.auto.i-end)) c.loop-i.invariant (λ lt. absurd (omega (arith, lt, c.loop-i-test.false))) in
    sym (take_all c.loop-i.i name c.loop-i-test.false) ∙ ap (λ n. take n name) (sym at)
