use Rattle.std.proofs.Common.{◌≡◌, ◌+◌, ◌-◌, suc, sym, ap, ◌∙◌, arith}
use Rattle.dt_build.specs.Resolve.Private.Wanted.{is_taken}
use Rattle.dt_build.proofs.ResolveLemmas.WantedSteps.{free_from, free-step, free-here, free-is}
use Rattle.dt_build.proofs.resolve.wanted.free_phandle.Goals as goal

pub loop-preserved : goal.loop-preserved
loop-preserved c =
    let taken = is_taken c.args.taken.now in
    let left = c.args.tries - (c.loop.counter + 1) in
    let more : c.args.tries - c.loop.counter ≡ suc left = omega (arith, c.loop-test.true) in
    ap (free_from taken left) c.in_ok-phandle-2.ensures.1
    ∙ free-step taken (c.args.tries - c.loop.counter) left c.loop.phandle more (sym c.contains.ensures ∙ c.if-not-contains.false) ∙ c.loop.invariant

pub returns-then-not-contains : goal.returns-then-not-contains
returns-then-not-contains c =
    let taken = is_taken c.args.taken.now in
    let left = c.args.tries - (c.loop.counter + 1) in
    let more : c.args.tries - c.loop.counter ≡ suc left = omega (arith, c.loop-test.true) in
    free-here taken (c.args.tries - c.loop.counter) left c.loop.phandle more (sym c.contains.ensures ∙ c.if-not-contains.true) ∙ c.loop.invariant ∙ free-is taken c.args.tries c.args.last

pub returns : goal.returns
returns c =
    let taken = is_taken c.args.taken.now in
    let done : 0 ≡ c.args.tries - c.loop.counter = omega (arith, c.loop-test.false) in
    ap (λ t. free_from taken t c.loop.phandle) done ∙ c.loop.invariant ∙ free-is taken c.args.tries c.args.last
