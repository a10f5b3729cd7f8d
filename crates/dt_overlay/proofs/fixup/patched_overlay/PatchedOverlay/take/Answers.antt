use Rattle.std.proofs.Common.{◌+◌, ◌<◌, ◌≤◌, ◌==◌, ◌&&◌, ◌||◌, ◌∙◌, ℕ, not, List, length, ap, sym, subst}
use Rattle.std.proofs.lemmas.Result.{err_from_is_err_and}
use Rattle.dt_live.specs.declared.live_tree.LiveTree.{LiveTree}
use Rattle.dt_live.specs.Flattened.{Lent}
use Rattle.dt_overlay.specs.Fixup.Private.Marks.{is_inside}
use Rattle.dt_overlay.proofs.fixup.patched_overlay.PatchedOverlay.take.Goals as goal

pub returns-then-is_taken-clause-free : goal.returns-then-is_taken-clause-free
returns-then-is_taken-clause-free c = ap not (sym c.if-is_taken.true ∙ c.is_taken.ensures)

pub returns-in_err-open-clause-kept : goal.returns-in_err-open-clause-kept
returns-in_err-open-clause-kept c =
    let p = err_from_is_err_and c.from_residual.result c.from_residual.ensures.1 in
    rw p.1 (λ k i. c.in_err-open.ensures.marks k i)

pub mark-requires-clause-known : goal.mark-requires-clause-known
mark-requires-clause-known c = subst (λ (d : LiveTree Lent). c.args.property < length d.properties.items) (sym c.in_ok-open.ensures.live) c.requires.known

pub mark-requires-clause-fits : goal.mark-requires-clause-fits
mark-requires-clause-fits c = subst (λ (v : List ℕ). c.args.offset + 4 ≤ length v) (sym (c.in_ok-open.ensures.values c.args.property)) c.requires.fits

pub returns-in_err-mark-clause-values : goal.returns-in_err-mark-clause-values
returns-in_err-mark-clause-values c = λ k. c.in_err-mark.ensures.values k ∙ c.in_ok-open.ensures.values k

pub returns-in_err-mark-clause-kept : goal.returns-in_err-mark-clause-kept
returns-in_err-mark-clause-kept c =
    let p = err_from_is_err_and c.from_residual-in_err-mark.result c.from_residual-in_err-mark.ensures.1 in
    rw p.1 (λ k i. c.in_err-mark.ensures.kept k i ∙ c.in_ok-open.ensures.marks k i)

pub returns-clause-values : goal.returns-clause-values
returns-clause-values c = λ k. c.in_ok-mark.ensures.values k ∙ c.in_ok-open.ensures.values k

pub returns-clause-free : goal.returns-clause-free
returns-clause-free c = ap not (sym c.if-is_taken.false ∙ c.is_taken.ensures)

pub returns-clause-marks : goal.returns-clause-marks
returns-clause-marks c = λ k i. c.in_ok-mark.ensures.marks k i ∙ ap (λ b. ((k == c.args.property) && is_inside c.args.offset i) || b) (c.in_ok-open.ensures.marks k i)
