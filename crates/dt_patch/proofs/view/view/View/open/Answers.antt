use Rattle.std.proofs.Common.{◌≡◌, true, false, Some, None, sym, ap, ◌∙◌, inr, arith}
use Rattle.dt_blob.proofs.Refusals.{no_end}
use Rattle.dt_blob.specs.Steps.Reading.{reserves_at}
use Rattle.dt_blob.proofs.Words.{AreBytes}
use Rattle.dt_patch.proofs.ViewLemmas.Overviews.{is_over_blocks, views_shown, shown, shown_accepted, shown_reserves}
use Rattle.dt_patch.proofs.view.view.View.open.Goals as goal

none_some : {A : Type 0} (x : A) → None ≡ Some x → ⊥
none_some x e = cc e

false_true : false ≡ true → ⊥
false_true e = cc e

pub returns-in_err-check_reserves-clause-only : goal.returns-in_err-check_reserves-clause-only
returns-in_err-check_reserves-clause-only c =
    let bytes = c.args.bytes.now in
    λ tree s. absurd (none_some tree.reserves (sym (c.in_err-check_reserves.ensures.1) ∙ shown_reserves bytes c.in_ok-parts.parts tree c.in_ok-parts.ensures.0 s))

pub returns-in_err-check_reserves-clause-no_end : goal.returns-in_err-check_reserves-clause-no_end
returns-in_err-check_reserves-clause-no_end c =
    λ _. inr (c.in_ok-parts.ensures.1, no_end _ (ap reserves_at (sym c.in_ok-parts.ensures.0.reserves) ∙ c.in_err-check_reserves.ensures.1))

pub returns-in_err-check_structure-clause-only : goal.returns-in_err-check_structure-clause-only
returns-in_err-check_structure-clause-only c =
    let bytes = c.args.bytes.now in
    λ tree s. absurd (false_true (sym (c.in_err-check_structure.ensures.0) ∙ shown_accepted bytes c.in_ok-parts.parts tree c.in_ok-parts.ensures.0 s))

pub returns-clause-found : goal.returns-clause-found
returns-clause-found c =
    let bytes = c.args.bytes.now in
    let v = c.view_of.ensures in
    let blocks = c.in_ok-parts.parts in
    let are = c.in_ok-parts.ensures.0 in
    let all : AreBytes bytes = λ i. omega (arith, c.type_inv.bytes i) in
    let s = shown bytes blocks (c.in_ok-check_reserves.ensures.0) all are c.in_ok-parts.ensures.1 (c.in_ok-check_reserves.ensures.1) c.in_ok-check_structure.ensures in
    (s.0, s.1, views_shown bytes c.view_of.result (s.0) (is_over_blocks bytes c.view_of.result blocks are v.reserves v.structure v.strings v.boot_cpu) (s.1))

pub returns-clause-only : goal.returns-clause-only
returns-clause-only c =
    let v = c.view_of.ensures in
    λ tree s. views_shown c.args.bytes.now c.view_of.result tree (is_over_blocks c.args.bytes.now c.view_of.result c.in_ok-parts.parts c.in_ok-parts.ensures.0 v.reserves v.structure v.strings v.boot_cpu) s
