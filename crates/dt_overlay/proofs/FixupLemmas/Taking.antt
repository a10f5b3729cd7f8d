-- A place is taken, or refused.
use Rattle.std.proofs.Common.{◌≡◌, ℕ, ◌<◌, ◌==◌, Bool, true, false, not, ◌&&◌, ◌||◌, List, ◌∷◌, length, Some, Ok, Err, refl, sym, ap, ap₂, ◌∙◌, subst, true≢false}
use Rattle.std.specs.List.{list_all}
use Rattle.dt_live.specs.Rows.{path_of, property_of, node_path}
use Rattle.dt_source.specs.OverlayMeaning.Fault.{BadFixup}
use Rattle.dt_source.specs.OverlayMeaning.Shifted.{Site, site, Shifting, are_apart, take_site}
use Rattle.dt_overlay.specs.declared.fixup.patched_overlay.PatchedOverlay.{PatchedOverlay}
use Rattle.dt_overlay.specs.Fixup.PatchedData.{IsPatched}
use Rattle.dt_overlay.specs.Fixup.PatchedOverlay.{change_at, patched_lists, value_at}
use Rattle.dt_overlay.specs.Fixup.Private.Marks.{is_inside, is_taken}
use Rattle.dt_overlay.specs.Fixup.Private.Steps.{IsAt, is_marked}
use Rattle.dt_overlay.specs.Fixup.Private.Walk.{is_open}
use Rattle.dt_overlay.proofs.FixupLemmas.LookUps.{row-there}
use Rattle.dt_overlay.proofs.FixupLemmas.RowSites.{row_site, free-apart, taken-at}
use Rattle.dt_overlay.proofs.FixupLemmas.OpenRows.{refused-near, taken-apart}

not-false : (b : Bool) → true ≡ not b → b ≡ false
not-false true e = absurd (true≢false e)
not-false false e = refl

not-true : (b : Bool) → false ≡ not b → b ≡ true
not-true true e = refl
not-true false e = absurd (true≢false (sym e))

module _ (s : PatchedOverlay) (patched : IsPatched s) (x : Shifting) (at : IsAt x s) (node : ℕ) (n : List ℕ) (o k : ℕ) (found : property_of s.live node n ≡ Some k) (free : is_open (site (node_path s.live node) n o) (patched_lists s).properties ≡ true) where
  abbrev a : Site
  a = site (node_path s.live node) n o

  same-site : row_site s.live k o ≡ a
  same-site = let f = row-there s.live patched.whole node n k found in ap₂ (λ m b. site (path_of s.live.nodes.items m) b o) f.1 f.2

  within : k < length s.live.properties.items
  within = (row-there s.live patched.whole node n k found).0

  free-now : is_open a x.properties ≡ true
  free-now = ap (λ es. is_open a es) at.properties ∙ free

  apart-now : is_taken (change_at s k) o ≡ not (list_all (are_apart a) x.sites)
  apart-now = free-apart s patched x at k o within ∙ ap (λ b. not (list_all (are_apart b) x.sites)) same-site

  pub refused-taken : (answer : Bool) → answer ≡ not (is_taken (change_at s k) o) → answer ≡ false → take_site a x ≡ Err BadFixup
  refused-taken answer is taken =
      refused-near a x free-now (not-false (list_all (are_apart a) x.sites) (sym (not-true (is_taken (change_at s k) o) (sym taken ∙ is)) ∙ apart-now))

  pub taken-free : (answer : Bool) → answer ≡ not (is_taken (change_at s k) o) → answer ≡ true → (t : PatchedOverlay) → t.live ≡ s.live
      → ((j : ℕ) → value_at t j ≡ value_at s j)
      → ((j i : ℕ) → is_marked (change_at t j) i ≡ ((answer && (j == k) && is_inside o i) || is_marked (change_at s j) i))
      → (y : Shifting) × (take_site a x ≡ Ok y) × IsAt y t
  taken-free answer is fresh t live values marks =
      let apart : list_all (are_apart a) x.sites ≡ true = not-true (list_all (are_apart a) x.sites) (sym (not-false (is_taken (change_at s k) o) (sym fresh ∙ is)) ∙ apart-now) in (
        record x { sites = a ∷ x.sites },
        taken-apart a x free-now apart,
        subst (λ (b : Site). IsAt (record x { sites = b ∷ x.sites }) t) same-site
            (taken-at s patched x at t live k o within values (λ j i. marks j i ∙ ap (λ b. (b && (j == k) && is_inside o i) || is_marked (change_at s j) i) fresh)),
      )
