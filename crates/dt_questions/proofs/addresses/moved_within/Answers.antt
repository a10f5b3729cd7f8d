-- Row by row.
use Rattle.std.proofs.Common.{◌≡◌, ◌∙◌, ap, sym, drop, ℕ, ◌-◌, List, Some, None}
use Rattle.dt_questions.specs.Addresses.{moved, moved_within, window_in}
use Rattle.dt_questions.proofs.MapLemmas.{rows-at, rows-none, rows-on}
use Rattle.dt_questions.proofs.addresses.moved_within.Goals as goal

pub returns-in_default : goal.returns-in_default
returns-in_default c =
    let is : window_in c.args.cells.now c.loop-left.rest.now ≡ None = sym c.window_in.ensures ∙ c.in_default.is in
    sym (rows-none c.args.cells.now c.loop-left.left c.loop-left.rest.now c.args.address c.loop-left-test.true is) ∙ c.loop-left.invariant

pub returns-in-Some-moved : goal.returns-in-Some-moved
returns-in-Some-moved c =
    let is : window_in c.args.cells.now c.loop-left.rest.now ≡ Some c.in-Some.window = sym c.window_in.ensures ∙ c.in-Some.is in
    let at : moved c.in-Some.window c.args.address ≡ Some c.in-Some-moved.found = sym c.moved.ensures ∙ c.in-Some-moved.is in
    sym (rows-at c.args.cells.now c.loop-left.left c.loop-left.rest.now c.args.address c.in-Some.window c.in-Some-moved.found c.loop-left-test.true is at)
    ∙ c.loop-left.invariant

pub loop-left-preserved : goal.loop-left-preserved
loop-left-preserved c =
    let is : window_in c.args.cells.now c.loop-left.rest.now ≡ Some c.in-Some.window = sym c.window_in.ensures ∙ c.in-Some.is in
    let at : moved c.in-Some.window c.args.address ≡ None = sym c.moved.ensures ∙ c.in_default-moved.is in
    ap (λ (rows : List ℕ). moved_within c.args.cells.now (c.loop-left.left - 1) rows c.args.address)
    (c.behind-rest.ensures ∙ ap (λ (n : ℕ). drop n c.loop-left.rest.now) c.row_len.ensures.value)
    ∙ rows-on c.args.cells.now c.loop-left.left c.loop-left.rest.now c.args.address c.in-Some.window c.loop-left-test.true is at
    ∙ c.loop-left.invariant
