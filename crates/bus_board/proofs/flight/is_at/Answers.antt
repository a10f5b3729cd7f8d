use Rattle.std.proofs.Common.{◌≡◌, ◌≤◌, ℕ, Bool, Option, Some, length, sym, ap, ◌∙◌, arith, true≢false, eq-eqb, eqb-true}
use Rattle.std.specs.Prelude.{slice_get}
use Rattle.std.proofs.lemmas.Option.{slice_get-get_or, get_or_from_slice_get, slice_get_within}
use Rattle.bus_board.proofs.flight.is_at.Goals as goal

pub returns-then-place-looks-clause-yes : goal.returns-then-place-looks-clause-yes
returns-then-place-looks-clause-yes c is =
    let x : ℕ × Option Bool = c.index-looks-place.result in
    let e : slice_get c.args.looks.now c.args.place ≡ Some x = slice_get-get_or c.args.looks.now c.args.place x c.if-place-looks.true ∙ ap (λ (y : ℕ × Option Bool). Some y) (sym c.index-looks-place.is) in
    let at : x.0 ≡ c.args.supplier = ap (λ (y : ℕ × Option Bool). y.0) c.index-looks-place.is ∙ sym c.index.ensures ∙ eqb-true c.index.result c.index-then-place-looks.result is ∙ c.index-then-place-looks.ensures in
    (x.1, e ∙ ap (λ (k : ℕ). Some (k, x.1)) at)

pub returns-then-place-looks-clause-no : goal.returns-then-place-looks-clause-no
returns-then-place-looks-clause-no c differ x e same =
    let here = get_or_from_slice_get c.args.looks.now c.args.place x c.index-looks-place.result e in
    let is : c.index.result ≡ c.index-then-place-looks.result = c.index.ensures ∙ ap (λ (y : ℕ × Option Bool). y.0) here ∙ same ∙ sym c.index-then-place-looks.ensures in
    true≢false (sym (eq-eqb c.index.result c.index-then-place-looks.result is) ∙ differ)

pub returns-clause-no : goal.returns-clause-no
returns-clause-no c _ x e same = let le : length c.args.looks.now ≤ c.args.place = c.if-place-looks.false in omega (arith, le, slice_get_within c.args.looks.now c.args.place x e)
