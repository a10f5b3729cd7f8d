use Rattle.std.proofs.Common.{◌≡◌, ◌∙◌, ◌+◌, ◌<◌, ◌==◌, ℕ, Bool, true, false, List, Result, Ok, length, ap, subst, sym, refl, arith}
use Rattle.std.proofs.lemmas.Bool.{eqb-true}
use Rattle.std.proofs.lemmas.Bool.Decides.{nat_tests}
use Rattle.dt_tree.specs.Steps.{each}
use Rattle.dt_source.specs.OverlayMeaning.Fault.{Fault}
use Rattle.dt_source.specs.OverlayMeaning.Shifted.{Value, raised_phandle, with_value}
use Rattle.dt_live.specs.declared.live_tree.LiveTree.{LiveTree}
use Rattle.dt_live.specs.Rows.{path_of}
use Rattle.dt_live.specs.ByRow.{row_property}
use Rattle.dt_live.specs.Flattened.{Lent, lists}
use Rattle.dt_live.proofs.WholeTrees.{all-entries}
use Rattle.dt_overlay.specs.Fixup.OverlayFault.{IsFault}
use Rattle.dt_overlay.specs.Fixup.PatchedOverlay.{patched_from, value_at}
use Rattle.dt_overlay.proofs.FixupLemmas.Raised.{each-listed, each-refused, fault-by}
use Rattle.dt_overlay.proofs.FixupLemmas.RowSites.{eqb-not}
use Rattle.dt_overlay.proofs.fixup.raising.raise_properties.Goals as goal

-- a row that is another than the next one is one before it
before : (k p : ℕ) → k < p + 1 → (k == p) ≡ false → k < p
before k p below other = grind (arith, nat_tests)

-- what was done, with one row more
done-more : (f : Value → Result Value Fault) (row : ℕ → Value) (old new : ℕ → List ℕ) (p : ℕ) → ((k : ℕ) → k < p → f (row k) ≡ Ok (with_value (row k) (old k)))
    → f (row p) ≡ Ok (with_value (row p) (new p)) → ((k : ℕ) → (k == p) ≡ false → new k ≡ old k) → (k : ℕ) → k < p + 1 → f (row k) ≡ Ok (with_value (row k) (new k))
done-more f row old new p done here others k below = by (k == p) refl where
  by : (t : Bool) → (k == p) ≡ t → f (row k) ≡ Ok (with_value (row k) (new k))
  by true e = subst (λ j. f (row j) ≡ Ok (with_value (row j) (new j))) (sym (eqb-true k p e)) here
  by false e = done k (before k p below e) ∙ ap (λ v. Ok (with_value (row k) v)) (sym (others k e))

pub loop-property-preserved : goal.loop-property-preserved
loop-property-preserved c =
    let d = c.args.patched.now.live in
    let s = c.loop-property.patched in
    let t = c.raise_property.new.patched in
    let i = c.loop-property.property in
    let inv = c.loop-property.invariant in
    let e = c.in_default.ensures in
    record {
      live = e.live ∙ inv.live;
      unmarked = λ k j. e.marks k j ∙ inv.unmarked k j;
      done =
          done-more (raised_phandle c.args.shift) (row_property d) (value_at s) (value_at t) i inv.done
          (subst (λ (x : LiveTree Lent). raised_phandle c.args.shift (row_property x i) ≡ Ok (with_value (row_property x i) (value_at t i))) inv.live e.raised) e.others;
      rest = λ k from. e.others k (eqb-not k i (λ is. omega (arith, from, is))) ∙ inv.rest k (omega (arith, from));
    }

pub returns-in-Err-clause-raised : goal.returns-in-Err-clause-raised
returns-in-Err-clause-raised c =
    let d = c.args.patched.now.live in
    let s = c.loop-property.patched in
    let i = c.loop-property.property in
    let step = raised_phandle c.args.shift in
    fault-by c.in-Err.error (step (row_property d i)) (each step (lists d).properties)
    (λ f is. ap (each step) (all-entries d c.check.ensures.whole.sound c.check.ensures.whole.stand c.check.ensures.whole.valued)
    ∙ each-refused step (path_of d.nodes.items) (value_at s) d.properties.items i f
    (omega (arith, c.loop-property-test.true, ap length c.properties-property-end.ensures)) c.loop-property.invariant.done is)
    (subst (λ x. IsFault c.in-Err.error (step (row_property x i))) c.loop-property.invariant.live c.in-Err.ensures.raised)

pub returns-clause-raised : goal.returns-clause-raised
returns-clause-raised c =
    let d = c.args.patched.now.live in
    let s = c.loop-property.patched in
    let step = raised_phandle c.args.shift in
    ap (each step) (all-entries d c.check.ensures.whole.sound c.check.ensures.whole.stand c.check.ensures.whole.valued)
    ∙ each-listed step (path_of d.nodes.items) (value_at s) 0 d.properties.items
    (λ i below. c.loop-property.invariant.done i (omega (arith, below, c.loop-property-test.false, ap length c.properties-property-end.ensures))
    ∙ ap (λ j. Ok (with_value (row_property d i) (value_at s j))) (omega arith))
    ∙ sym (ap (λ x. Ok (patched_from (path_of x.nodes.items) (value_at s) 0 x.properties.items)) c.loop-property.invariant.live)
