use Rattle.std.proofs.Common.{◌≡◌, ℕ, suc, zero, ◌+◌, ◌-◌, ◌<◌, List, Option, Some, ap, sym, ◌∙◌, arith}
use Rattle.std.specs.Option.{option_copied}
use Rattle.std.specs.Prelude.{option_and_then}
use Rattle.dt_patch.specs.View.Cells.{behind_text_in, string_in}
use Rattle.dt_patch.proofs.view.cells.string.Goals as goal

later : (rest : List ℕ) (n : ℕ) (o : Option (List ℕ)) → 0 < n → o ≡ behind_text_in rest → string_in rest n ≡ option_and_then (λ x. string_in x (n - 1)) o
later rest zero o h e = absurd (omega arith)
later rest (suc n) o h e =
    let same : suc n - 1 ≡ n = omega arith in
    ap (λ (x : Option (List ℕ)). option_and_then (λ y. string_in y n) x) (sym e) ∙ ap (λ (k : ℕ). option_and_then (λ y. string_in y k) o) (sym same)

pub loop-preserved : goal.loop-preserved
loop-preserved c =
    let test = c.loop-test.true in
    let e : option_copied (Some c.in_ok-rest.rest) ≡ behind_text_in c.loop.rest.now = c.in_ok-rest.ensures in
    let step = later c.loop.rest.now (c.args.place - c.loop.counter) _ (omega (arith, test)) e in
    let same : c.args.place - c.loop.counter - 1 ≡ c.args.place - (c.loop.counter + 1) = omega arith in
    c.loop.invariant ∙ step ∙ ap (λ (k : ℕ). string_in c.in_ok-rest.rest.now k) same
