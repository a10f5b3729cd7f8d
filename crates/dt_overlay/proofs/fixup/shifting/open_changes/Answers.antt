use Rattle.std.proofs.Common.{◌≡◌, ◌∙◌, ◌++◌, ◌∷◌, [], ℕ, List, Option, None, length, ap, sym, arith}
use Rattle.std.proofs.lemmas.List.{replicate_more}
use Rattle.dt_live.specs.Flattened.{lists}
use Rattle.dt_source.specs.OverlayMeaning.Shifted.{fragments}
use Rattle.dt_overlay.specs.declared.fixup.patched_overlay.Change.{Change}
use Rattle.dt_overlay.proofs.FixupLemmas.Composed.{none-by}
use Rattle.dt_overlay.proofs.FixupLemmas.Flattening.{nones}
use Rattle.dt_overlay.proofs.fixup.shifting.open_changes.Goals as goal

pub returns-then-not-has_fragment-clause-some : goal.returns-then-not-has_fragment-clause-some
returns-then-not-has_fragment-clause-some c = none-by (fragments (lists c.args.over.now)) (sym c.has_fragment.ensures ∙ c.if-not-has_fragment.true)

pub returns-clause-some : goal.returns-clause-some
returns-clause-some c = sym c.has_fragment.ensures ∙ c.if-not-has_fragment.false

pub returns-clause-none : goal.returns-clause-none
returns-clause-none c =
    let all : c.loop-row._row ≡ length c.args.over.now.properties.items = omega (arith, c.loop-row-test.false, c.loop-row.auto._row-end, ap length c.properties-count.ensures) in
    c.loop-row.invariant.items ∙ ap (λ (n : ℕ). nones {A = Change} n) all

pub loop-row-preserved : goal.loop-row-preserved
loop-row-preserved c = record {
  items = c.in_ok-push.ensures.items ∙ ap (λ (xs : List (Option Change)). xs ++ None ∷ []) c.loop-row.invariant.items ∙ replicate_more c.loop-row._row None;
}
