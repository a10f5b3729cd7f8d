-- Places that are opened.
use Rattle.std.proofs.Common.{◌≡◌, ℕ, zero, suc, ◌+◌, ◌<◌, ◌≤◌, List, [], ◌∷◌, ◌++◌, length, get_or, map, take, drop, Ok, Err, sym, ap, ap₂, ◌∙◌, subst, add-one, drop-cons, arith}
use Rattle.std.specs.Prelude.{All, Result}
use Rattle.std.proofs.lemmas.List.{drop_all, map-append, take_more, take_all}
use Rattle.std.proofs.lemmas.List.Elements.{All-append}
use Rattle.dt_tree.specs.Steps.{then_do, fold}
use Rattle.dt_source.specs.TreeMeaning.Paths.{Path}
use Rattle.dt_source.specs.TreeMeaning.MapOf.{value_in}
use Rattle.dt_live.specs.declared.live_tree.LiveTree.{LiveTree}
use Rattle.dt_live.specs.Rows.{path_of}
use Rattle.dt_live.specs.Flattened.{Lent}
use Rattle.dt_source.specs.OverlayMeaning.Fault.{Fault, BadFixup}
use Rattle.dt_source.specs.OverlayMeaning.Shifted.{Fixup, Shifting, site, take_site}
use Rattle.dt_overlay.specs.declared.fixup.taken_sites.TakenSite.{TakenSite}
use Rattle.dt_overlay.specs.declared.fixup.reading.NamedSite.{NamedSite}
use Rattle.dt_overlay.specs.declared.fixup.patched_overlay.PatchedOverlay.{PatchedOverlay}
use Rattle.dt_overlay.specs.Fixup.PatchedData.{IsPatched}
use Rattle.dt_overlay.specs.Fixup.PatchedOverlay.{value_at}
use Rattle.dt_overlay.specs.Fixup.Private.Steps.{IsAt}
use Rattle.dt_overlay.specs.Fixup.Private.Fixing.{fixup_named}
use Rattle.dt_overlay.specs.Fixup.Private.TakenSites.{IsInside, fixup_taken}
use Rattle.dt_overlay.proofs.FixupLemmas.LookUps.{value-no-node}
use Rattle.dt_overlay.proofs.FixupLemmas.OpenRows.{not-there, refused-closed}

-- a place of a node that is missing
pub site-missing : (s : PatchedOverlay) → IsPatched s → (p : Path) (n : List ℕ) (o : ℕ) → ((m : ℕ) → m ≤ length s.live.nodes.items → p ≡ path_of s.live.nodes.items m → ⊥)
    → (x : Shifting) → IsAt x s → take_site (site p n o) x ≡ Err BadFixup
site-missing s sound p n o nowhere x at =
    refused-closed (site p n o) x (not-there (site p n o) x.properties (ap (λ es. value_in es p n) at.properties ∙ value-no-node s.live sound.whole (value_at s) p n nowhere))

-- ---- one after the other
abbrev pub takes : List Fixup → Shifting → Result Shifting Fault
takes fs x = fold (λ f. take_site f.at) fs x

pub takes-more : (all : List NamedSite) (i : ℕ) (f : NamedSite) → i < length all → f ≡ get_or all i f → (y : Shifting)
    → takes (map fixup_named (drop i all)) y ≡ then_do (take_site (fixup_named f).at y) (takes (map fixup_named (drop (i + 1) all)))
takes-more all i f below is y =
    ap (λ fs. takes (map fixup_named fs) y) (drop-cons all i f below ∙ ap₂ (λ g m. g ∷ drop m all) (sym is) (sym (add-one i)))

pub takes-end : (all : List NamedSite) (i : ℕ) → length all ≤ i → (y : Shifting) → takes (map fixup_named (drop i all)) y ≡ Ok y
takes-end all i past y = ap (λ fs. takes (map fixup_named fs) y) (drop_all i all past)

-- ---- the list of places
pub inside-kept : (s t : PatchedOverlay) → t.live ≡ s.live → ((k : ℕ) → value_at t k ≡ value_at s k) → (os : List TakenSite) → All (IsInside s) os → All (IsInside t) os
inside-kept s t same values os all = λ k d below.
    let h = all k d below in
    let o = get_or os k d in
    (subst (λ (e : LiveTree Lent). o.row < length e.properties.items) (sym same) h.0, omega (arith, h.1, ap length (values o.row)))

pub inside-more : (t : PatchedOverlay) (os : List TakenSite) (o : TakenSite) → All (IsInside t) os → IsInside t o → All (IsInside t) (os ++ o ∷ [])
inside-more t os o all last = All-append (IsInside t) os (o ∷ []) all one where
  first : (k : ℕ) (d : TakenSite) → k < 1 → IsInside t (get_or (o ∷ []) k d)
  first zero d below = last
  first (suc k) d below = absurd (omega (arith, below))

  one : All (IsInside t) (o ∷ [])
  one = λ k d below. first k d below

pub taken-more : (d : LiveTree Lent) (os : List TakenSite) (o : TakenSite) (all : List NamedSite) (i : ℕ) (f : NamedSite) → i < length all → f ≡ get_or all i f
    → map (fixup_taken d) os ≡ map fixup_named (take i all) → fixup_taken d o ≡ fixup_named f → map (fixup_taken d) (os ++ o ∷ []) ≡ map fixup_named (take (i + 1) all)
taken-more d os o all i f below is before last =
    map-append (fixup_taken d) os (o ∷ []) ∙ ap₂ (λ xs x. xs ++ x ∷ []) before last ∙ sym (map-append fixup_named (take i all) (f ∷ []))
    ∙ ap (map fixup_named) (ap (λ g. take i all ++ g ∷ []) is ∙ sym (take_more all i f below))

pub taken-end : (d : LiveTree Lent) (os : List TakenSite) (all : List NamedSite) (i : ℕ) → length all ≤ i → map (fixup_taken d) os ≡ map fixup_named (take i all) → map (fixup_taken d) os ≡ map fixup_named all
taken-end d os all i past before = before ∙ ap (map fixup_named) (take_all i all past)
