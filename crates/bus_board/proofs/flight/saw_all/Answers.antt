use Rattle.std.proofs.Common.{◌≡◌, ℕ, Bool, Option, Some, sym, ap, ◌∙◌, arith, length, ◌≤◌}
use Rattle.std.specs.Prelude.{slice_index_or}
use Rattle.std.proofs.lemmas.Option.{slice_get-get_or, get_or_from_slice_get, slice_get_within}
use mathlib.Core.Logic.{dite}
use native.Mathlib.Decide.{ℕ_discrete}
use Rattle.bus_board.proofs.flight.saw_all.Goals as goal

pub loop-look-init : goal.loop-look-init
loop-look-init c i x lt = absurd (omega arith)

pub returns-then-not-saw_bound-clause-no : goal.returns-then-not-saw_bound-clause-no
returns-then-not-saw_bound-clause-no c _ = let i = c.loop-look.look-index in (
  i,
  c.look-item.result,
  slice_get-get_or c.args.looks.now i c.look-item.result c.loop-look-test.true ∙ ap (λ (y : ℕ × Option Bool). Some y) (sym c.look-item.is),
  c.saw_bound.ensures.no c.if-not-saw_bound.true,
)

pub loop-look-preserved : goal.loop-look-preserved
loop-look-preserved c i x lt e = dite (ℕ_discrete i c.loop-look.look-index)
    (λ same.
    let is = get_or_from_slice_get c.args.looks.now i x c.look-item.result e in
    let here : c.look-item.result ≡ x = c.look-item.is ∙ ap (λ (k : ℕ). slice_index_or c.args.looks.now k c.look-item.result) (sym same) ∙ is in
    ap (λ (y : ℕ × Option Bool). y.1) (sym here) ∙ c.saw_bound.ensures.yes c.if-not-saw_bound.false)
    (λ other. c.loop-look.invariant i x (omega arith) e)

pub returns-clause-yes : goal.returns-clause-yes
returns-clause-yes c _ i x e = c.loop-look.invariant i x (let le : length c.args.looks.now ≤ c.loop-look.look-index = c.loop-look-test.false in omega (arith, slice_get_within c.args.looks.now i x e)) e
