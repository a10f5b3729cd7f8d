use Rattle.std.proofs.Common.{ap, sym, ◌∙◌, arith}
use Rattle.dt_text.specs.Include.Searching.{is_closed}
use Rattle.dt_text.proofs.IncludeLemmas.Searches.{folder_is, none_at_end, some_left, step_back}
use Rattle.dt_text.proofs.include.searching.folder_of.Goals as goal

pub loop-end-init : goal.loop-end-init
loop-end-init c = none_at_end c.args.path.now

pub overflow_sub-end : goal.overflow_sub-end
overflow_sub-end c = some_left c.args.path.now c.front.result.now c.loop-end.end c.front.ensures (sym c.is_closed.ensures ∙ c.loop-end-test.true)

pub loop-end-smaller : goal.loop-end-smaller
loop-end-smaller c =
    let some = some_left c.args.path.now c.front.result.now c.loop-end.end c.front.ensures (sym c.is_closed.ensures ∙ c.loop-end-test.true) in omega (arith, some)

pub loop-end-preserved : goal.loop-end-preserved
loop-end-preserved c = step_back c.args.path.now c.front.result.now c.loop-end.end c.loop-end.invariant c.front.ensures (sym c.is_closed.ensures ∙ c.loop-end-test.true)

pub returns : goal.returns
returns c =
    folder_is c.args.path.now c.front-2.result.now c.loop-end.end c.loop-end.invariant c.front-2.ensures
    (ap is_closed (c.front-2.ensures ∙ sym c.front.ensures) ∙ sym c.is_closed.ensures ∙ c.loop-end-test.false)
