use Rattle.std.proofs.Common.{◌≡◌, ◌∙◌, ◌+◌, ◌≤◌, ◌==◌, ℕ, Bool, true, false, if◌then◌else◌, List, length, refl, sym, ap, subst, arith}
use Rattle.std.proofs.lemmas.Bool.{eqb-true}
use Rattle.std.proofs.lemmas.List.{length-append, length-drop, length-take}
use Rattle.dt_source.specs.OverlayMeaning.Shifted.{written}
use Rattle.dt_overlay.specs.Fixup.PatchedOverlay.{value_at}
use Rattle.std.specs.Int.{to_be_bytes, w32}
use Rattle.dt_overlay.proofs.FixupLemmas.RowSites.{written-at}
use Rattle.dt_overlay.proofs.fixup.writing.write_site.Goals as goal

-- what is written inside a value leaves its length
written-length : (o : ℕ) (b v : List ℕ) → length b ≡ 4 → o + 4 ≤ length v → length (written o b v) ≡ length v
written-length o b v four fits = simp (length-append, length-take, length-drop) (omega arith)

same-length : (k r o : ℕ) (b : List ℕ) (value : ℕ → List ℕ) (w : List ℕ) → length b ≡ 4 → o + 4 ≤ length (value r) → w ≡ (if k == r then written o b (value k) else value k)
    → length w ≡ length (value k)
same-length k r o b value w four fits is = ap length is ∙ by (k == r) refl where
  by : (t : Bool) → (k == r) ≡ t → length (if t then written o b (value k) else value k) ≡ length (value k)
  by true e = written-length o b (value k) four (subst (λ j. o + 4 ≤ length (value j)) (sym (eqb-true k r e)) fits)
  by false e = refl

pub returns-clause-lengths : goal.returns-clause-lengths
returns-clause-lengths c = λ k.
    same-length k c.args.site.row c.args.site.offset (to_be_bytes w32 c.args.phandle) (value_at c.args.patched.now) (value_at c.write.new.self k) refl c.requires.inside.1 (c.in_ok-write.ensures.values k)

pub returns-clause-written : goal.returns-clause-written
returns-clause-written c =
    written-at c.args.patched.now c.check.ensures c.write.new.self c.in_ok-write.ensures.live c.args.site.row c.args.site.offset (to_be_bytes w32 c.args.phandle) c.requires.inside.0 c.in_ok-write.ensures.values
