use Rattle.std.proofs.Common.{◌≡◌, ◌∙◌, ◌+◌, ◌-◌, ◌*◌, ◌/◌, ◌<◌, ◌≤◌, ℕ, Ok, take, drop, length, sym, ap, subst, refl, arith}
use Rattle.std.specs.Int.{from_be_bytes, w32}
use Rattle.dt_live.specs.Rows.{node_path}
use Rattle.dt_source.specs.TreeMeaning.Edits.{definition}
use Rattle.dt_source.specs.OverlayMeaning.Shifted.{Site, site, raise_at, raise_sites, Shifting}
use Rattle.dt_overlay.specs.Fixup.OverlayFault.{IsFault}
use Rattle.dt_overlay.specs.Fixup.Private.Steps.{IsAt}
use Rattle.dt_overlay.proofs.FixupLemmas.LocalSteps.{fourth, numbers, numbers-end, numbers-step, sites-more, sites_step, reached-end, reached-fault, reached-more, value-fault, value-step}
use Rattle.dt_overlay.proofs.fixup.local.raise_value.Goals as goal

pub returns-then-count-value-clause-step : goal.returns-then-count-value-clause-step
returns-then-count-value-clause-step c = λ x at.
    let e = definition (node_path c.args.patched.now.live c.args.fixup.node) c.args.fixup.name.now c.args.value.now in
    value-fault c.args.shift e (λ k whole. c.if-count-value.true (fourth (length c.args.value.now) k whole)) x

pub loop-k-init : goal.loop-k-init
loop-k-init c =
    let s = c.args.patched.now in
    let e = definition (node_path s.live c.args.fixup.node) c.args.fixup.name.now c.args.value.now in
    let count = length c.args.value.now / 4 in
    let none : count - 0 ≡ count = omega arith in
    let whole : length c.args.value.now ≡ count * 4 = omega (arith, c.if-count-value.false) in
    record {
      live = refl;
      reached = λ x at. (x, value-step c.args.shift e count whole x ∙ ap (λ m. sites_step c.args.shift (drop 1 e.path) e.name (numbers m c.args.value.now) x) (sym none), at);
    }

pub returns-in-Err-clause-step : goal.returns-in-Err-clause-step
returns-in-Err-clause-step c =
    let s = c.args.patched.now in
    let t = c.loop-k.patched in
    let e = definition (node_path s.live c.args.fixup.node) c.args.fixup.name.now c.args.value.now in
    let v = c.args.value.now in
    let count = length v / 4 in
    let k = c.loop-k.k in
    let below : k < count = c.loop-k-test.true in
    let o : ℕ = from_be_bytes w32 (take 4 (drop (k * 4) v)) in
    let p = drop 1 e.path in
    let same : drop 1 (node_path t.live c.args.fixup.node) ≡ p = ap (λ d. drop 1 (node_path d c.args.fixup.node)) c.loop-k.invariant.live in
    let at : site (drop 1 (node_path t.live c.args.fixup.node)) c.args.fixup.name.now c.cell_at-offset.result ≡ site p c.args.fixup.name.now o =
    ap (λ q. site q c.args.fixup.name.now c.cell_at-offset.result) same ∙ ap (λ m. site p c.args.fixup.name.now m) c.cell_at-offset.ensures in
    reached-fault c.in-Err.error (raise_sites c.args.shift e) (sites_step c.args.shift p c.args.fixup.name.now (numbers (count - k) (drop (k * 4) v))) (raise_at c.args.shift (site p c.args.fixup.name.now o))
    (sites_step c.args.shift p c.args.fixup.name.now (numbers (count - (k + 1)) (drop ((k + 1) * 4) v))) s t c.loop-k.invariant.reached
    (sites-more c.args.shift p c.args.fixup.name.now (numbers (count - k) (drop (k * 4) v)) o (numbers (count - (k + 1)) (drop ((k + 1) * 4) v)) (numbers-step v count k below))
    (subst (λ (a : Site). (x : Shifting) → IsAt x t → IsFault c.in-Err.error (raise_at c.args.shift a x)) at c.in-Err.ensures.step)

pub loop-k-preserved : goal.loop-k-preserved
loop-k-preserved c =
    let s = c.args.patched.now in
    let t = c.loop-k.patched in
    let e = definition (node_path s.live c.args.fixup.node) c.args.fixup.name.now c.args.value.now in
    let v = c.args.value.now in
    let count = length v / 4 in
    let k = c.loop-k.k in
    let below : k < count = c.loop-k-test.true in
    let o : ℕ = from_be_bytes w32 (take 4 (drop (k * 4) v)) in
    let p = drop 1 e.path in
    let same : drop 1 (node_path t.live c.args.fixup.node) ≡ p = ap (λ d. drop 1 (node_path d c.args.fixup.node)) c.loop-k.invariant.live in
    let at : site (drop 1 (node_path t.live c.args.fixup.node)) c.args.fixup.name.now c.cell_at-offset.result ≡ site p c.args.fixup.name.now o =
    ap (λ q. site q c.args.fixup.name.now c.cell_at-offset.result) same ∙ ap (λ m. site p c.args.fixup.name.now m) c.cell_at-offset.ensures in
    record {
      live = c.in_default.ensures.live ∙ c.loop-k.invariant.live;
      reached =
          reached-more (raise_sites c.args.shift e) (sites_step c.args.shift p c.args.fixup.name.now (numbers (count - k) (drop (k * 4) v))) (raise_at c.args.shift (site p c.args.fixup.name.now o))
          (sites_step c.args.shift p c.args.fixup.name.now (numbers (count - (k + 1)) (drop ((k + 1) * 4) v))) s t c.raise_site.new.patched c.loop-k.invariant.reached
          (sites-more c.args.shift p c.args.fixup.name.now (numbers (count - k) (drop (k * 4) v)) o (numbers (count - (k + 1)) (drop ((k + 1) * 4) v)) (numbers-step v count k below))
          (subst (λ (a : Site). (x : Shifting) → IsAt x t → (y : Shifting) × (raise_at c.args.shift a x ≡ Ok y) × IsAt y c.raise_site.new.patched) at c.in_default.ensures.step);
    }

pub returns-clause-step : goal.returns-clause-step
returns-clause-step c =
    let s = c.args.patched.now in
    let e = definition (node_path s.live c.args.fixup.node) c.args.fixup.name.now c.args.value.now in
    let v = c.args.value.now in
    let count = length v / 4 in
    let k = c.loop-k.k in
    let past : count ≤ k = c.loop-k-test.false in
    let p = drop 1 e.path in
    reached-end (raise_sites c.args.shift e) (sites_step c.args.shift p c.args.fixup.name.now (numbers (count - k) (drop (k * 4) v))) s c.loop-k.patched c.loop-k.invariant.reached
    (λ y. ap (λ os. sites_step c.args.shift p c.args.fixup.name.now os y) (numbers-end v count k past))
