use Rattle.std.proofs.Common.{◌≡◌, ◌≤◌, length, ℕ, Bool, Option, Some, sym, ap, ◌∙◌, arith}
use Rattle.std.specs.Prelude.{slice_get, slice_index_or}
use Rattle.std.proofs.lemmas.Option.{slice_get-get_or, get_or_from_slice_get, slice_get_within}
use mathlib.Core.Logic.{dite}
use native.Mathlib.Decide.{ℕ_discrete}
use Rattle.bus_board.proofs.flight.find_look.Goals as goal

pub loop-look-init : goal.loop-look-init
loop-look-init c i x lt = absurd (omega arith)

pub returns-then-index : goal.returns-then-index
returns-then-index c =
    let i = c.loop-look.look-index in
    let x : ℕ × Option Bool = c.look-item.result in
    let e : slice_get c.args.looks.now i ≡ Some x = slice_get-get_or c.args.looks.now i x c.loop-look-test.true ∙ ap (λ (y : ℕ × Option Bool). Some y) (sym c.look-item.is) in
    let at : x.0 ≡ c.args.supplier = sym c.index.ensures ∙ c.if-index.true ∙ c.index-in-loop-look.ensures in
    (i, e ∙ ap (λ (k : ℕ). Some (k, x.1)) at)

pub loop-look-preserved : goal.loop-look-preserved
loop-look-preserved c i x lt e = dite (ℕ_discrete i c.loop-look.look-index)
    (λ same s.
    let is = get_or_from_slice_get c.args.looks.now i x c.look-item.result e in
    let here : c.look-item.result ≡ x = c.look-item.is ∙ ap (λ (k : ℕ). slice_index_or c.args.looks.now k c.look-item.result) (sym same) ∙ is in
    c.if-index.false (c.index.ensures ∙ ap (λ (y : ℕ × Option Bool). y.0) here ∙ s ∙ sym c.index-in-loop-look.ensures))
    (λ other. c.loop-look.invariant i x (omega arith) e)

pub returns : goal.returns
returns c i x e = c.loop-look.invariant i x (let le : length c.args.looks.now ≤ c.loop-look.look-index = c.loop-look-test.false in omega (arith, slice_get_within c.args.looks.now i x e)) e
