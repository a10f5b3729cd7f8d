-- Phandles written at places.
use Rattle.std.proofs.Common.{◌≡◌, ℕ, ◌+◌, ◌<◌, ◌≤◌, List, ◌∷◌, length, get_or, map, drop, Some, None, Ok, Err, refl, sym, ap, ap₂, ◌∙◌, subst, add-one, drop-cons}
use Rattle.std.specs.Prelude.{Result}
use Rattle.std.specs.Int.{to_be_bytes, w32}
use Rattle.std.specs.List.{flat_map}
use Rattle.std.proofs.lemmas.List.{drop_all}
use Rattle.dt_tree.specs.Steps.{then_do, each, fold}
use Rattle.dt_source.specs.TreeMeaning.Resolved.{Resolved}
use Rattle.dt_live.specs.declared.live_tree.LiveTree.{LiveTree}
use Rattle.dt_live.specs.Flattened.{Lent}
use Rattle.dt_source.specs.OverlayMeaning.Fault.{Fault, UnknownSymbol}
use Rattle.dt_source.specs.OverlayMeaning.Shifted.{Fixup, Shifting, Value, fixups_in, resolve, symbol_phandle, with_fixups, write_at}
use Rattle.dt_overlay.specs.declared.fixup.error.OverlayError.{OverlayError}
use Rattle.dt_overlay.specs.Fixup.OverlayFault.{IsFault}
use Rattle.dt_overlay.proofs.FixupLemmas.LocalSteps.{fault-then}
use Rattle.dt_overlay.specs.declared.fixup.taken_sites.TakenSite.{TakenSite}
use Rattle.dt_overlay.specs.Fixup.Private.Fixing.{gathered}
use Rattle.dt_overlay.specs.Fixup.Private.TakenSites.{fixup_taken}
use Rattle.dt_overlay.proofs.FixupLemmas.TakenSiteLaws.{takes}

-- ---- one site
abbrev pub writes : Resolved → List Fixup → List Value → Result (List Value) Fault
writes base fs es = fold (resolve base) fs es

pub writes-more : (base : Resolved) (d : LiveTree Lent) (all : List TakenSite) (i : ℕ) (o : TakenSite) → i < length all → o ≡ get_or all i o → (es : List Value)
    → writes base (map (fixup_taken d) (drop i all)) es ≡ then_do (resolve base (fixup_taken d o) es) (writes base (map (fixup_taken d) (drop (i + 1) all)))
writes-more base d all i o below is es = ap (λ os. writes base (map (fixup_taken d) os) es) (drop-cons all i o below ∙ ap₂ (λ g m. g ∷ drop m all) (sym is) (sym (add-one i)))

pub writes-end : (base : Resolved) (d : LiveTree Lent) (all : List TakenSite) (i : ℕ) → length all ≤ i → (es : List Value) → writes base (map (fixup_taken d) (drop i all)) es ≡ Ok es
writes-end base d all i past es = ap (λ os. writes base (map (fixup_taken d) os) es) (drop_all i all past)

pub resolve-none : (base : Resolved) (f : Fixup) (es : List Value) → symbol_phandle base f.symbol ≡ None → resolve base f es ≡ Err UnknownSymbol
resolve-none base f es none = rw none refl

pub resolve-some : (base : Resolved) (f : Fixup) (es : List Value) (n : ℕ) → symbol_phandle base f.symbol ≡ Some n → resolve base f es ≡ Ok (write_at f.at (to_be_bytes w32 n) es)
resolve-some base f es n some = rw some refl

-- ---- all together
pub with-gathered : (base : Resolved) (es : List Value) (x : Shifting) → with_fixups base es x ≡ then_do (gathered es) (λ fs. then_do (takes fs x) (λ y. writes base fs y.properties))
with-gathered base es x = by (each fixups_in es) where
  by : (r : Result (List (List Fixup)) Fault) → then_do r (λ fss. then_do (takes (flat_map (λ f. f) fss) x) (λ y. writes base (flat_map (λ f. f) fss) y.properties))
      ≡ then_do (then_do r (λ fss. Ok (flat_map (λ f. f) fss))) (λ fs. then_do (takes fs x) (λ y. writes base fs y.properties))
  by (Ok fss) = refl
  by (Err e) = refl

pub fixups-unread : (e : OverlayError) (base : Resolved) (es : List Value) (x : Shifting) → IsFault e (gathered es) → IsFault e (with_fixups base es x)
fixups-unread e base es x h =
    subst (λ (r : Result (List Value) Fault). IsFault e r) (sym (with-gathered base es x)) (fault-then e (gathered es) (λ fs. then_do (takes fs x) (λ y. writes base fs y.properties)) h)

pub fixups-untaken : (e : OverlayError) (base : Resolved) (es : List Value) (x : Shifting) (fs : List Fixup) → gathered es ≡ Ok fs → IsFault e (takes fs x) → IsFault e (with_fixups base es x)
fixups-untaken e base es x fs read h =
    subst (λ (r : Result (List Value) Fault). IsFault e r) (sym (with-gathered base es x ∙ ap (λ r. then_do r (λ fs. then_do (takes fs x) (λ y. writes base fs y.properties))) read))
    (fault-then e (takes fs x) (λ y. writes base fs y.properties) h)

pub fixups-written : (base : Resolved) (es : List Value) (x y : Shifting) (fs : List Fixup) → gathered es ≡ Ok fs → takes fs x ≡ Ok y → with_fixups base es x ≡ writes base fs y.properties
fixups-written base es x y fs read took =
    with-gathered base es x ∙ ap (λ r. then_do r (λ fs. then_do (takes fs x) (λ y. writes base fs y.properties))) read
    ∙ ap (λ r. then_do r (λ y. writes base fs y.properties)) took
