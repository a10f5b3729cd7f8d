-- The list of fixup sites, one more or one further.
use Rattle.std.proofs.Common.{◌≡◌, ℕ, zero, suc, ◌+◌, ◌<◌, ◌≤◌, List, [], ◌∷◌, ◌++◌, length, get_or, drop, map, Option, None, sym, ap, ap₂, ◌∙◌, append_assoc, arith}
use Rattle.std.proofs.lemmas.List.{at_drop_more, get_or-map}
use Rattle.dt_source.specs.TreeMeaning.Paths.{Path}
use Rattle.dt_source.specs.TreeMeaning.Edits.{definition}
use Rattle.dt_source.specs.TreeMeaning.References.{Found}
use Rattle.dt_source.specs.TreeMeaning.Phandles.{PathPhandle}
use Rattle.dt_source.specs.TreeMeaning.Fixups.{Site, bytes_of, label_found, sites_in}
use Rattle.dt_live.specs.Rows.{node_path}
use Rattle.dt_live.specs.declared.preorder.properties.NodeProperty.{NodeProperty}
use Rattle.dt_build.specs.Edit.Said.{Parts}
use Rattle.dt_build.specs.Resolve.Founds.{found_property}
use Rattle.dt_build.specs.declared.draft.Draft.{Draft}
use Rattle.dt_build.specs.declared.fixup_sites.FixupSite.{FixupSite}
use Rattle.dt_build.specs.Private.FixupSites.{AreBetween, all_left, fixed_sites, key_at, key_of, site_with}
use Rattle.dt_build.specs.Private.Made.{all_phandles}
use Rattle.dt_build.specs.Private.Values.{all_uses}

-- ---- places
pub between-push : (m n : ℕ) (ss : List FixupSite) (s : FixupSite) → m < n → s.property + 1 ≡ n → AreBetween m n ss → AreBetween m n (ss ++ s ∷ [])
between-push m n [] s less at h = (omega (arith, less, at), omega (arith, at), tt)
between-push m n (t ∷ ss) s less at h = (h.0, h.1, between-push t.property n ss s h.1 at h.2)

pub between-more : (m n k : ℕ) (ss : List FixupSite) → n ≤ k → AreBetween m n ss → AreBetween m k ss
between-more m n k [] le h = tt
between-more m n k (t ∷ ss) le h = (h.0, omega (arith, le, h.1), between-more t.property n k ss le h.2)

-- ---- one further
abbrev no_site : FixupSite
no_site = record { property = 0; reference = None; offset = 0 }

-- the site that a loop is at
abbrev pub site_at : List FixupSite → ℕ → FixupSite
site_at ss i = get_or ss i no_site

pub site-known : (m n : ℕ) (ss : List FixupSite) (i : ℕ) → AreBetween m n ss → i < length ss → (site_at ss i).property < n
site-known m n [] i h below = absurd (omega (arith, below))
site-known m n (t ∷ ss) zero h below = h.1
site-known m n (t ∷ ss) (suc i) h below = site-known t.property n ss i h.2 (omega (arith, below))

pub split : (ss : List FixupSite) (i : ℕ) → i < length ss → drop i ss ≡ site_at ss i ∷ drop (i + 1) ss
split ss i below = at_drop_more (λ ts. ts) ss i no_site below

-- the property that code reads
pub key-read : (p : Draft) (i : ℕ) (x : NodeProperty Parts) → i < length p.in_preorder.properties.items → x ≡ get_or p.in_preorder.properties.items i x → key_at p i ≡ key_of p x
key-read p i x below at = get_or-map (key_of p) p.in_preorder.properties.items i x (definition [] [] []) below ∙ ap (key_of p) (sym at)

-- ---- the sites of a value, part by part
pub sites-more : (ns : List PathPhandle) (q : Path) (n : List ℕ) (f : Found) (fs gs : List Found) (offset next : ℕ) (old new whole : List Site) → gs ≡ f ∷ fs → new ≡ old ++ map (site_with q n offset) (label_found f)
    → next ≡ offset + length (bytes_of ns f) → old ++ sites_in ns q n offset gs ≡ whole → new ++ sites_in ns q n next fs ≡ whole
sites-more ns q n f fs gs offset next old new whole at step sum so =
    ap₂ (λ xs o. xs ++ sites_in ns q n o fs) step sum
    ∙ append_assoc old (map (site_with q n offset) (label_found f)) (sites_in ns q n (offset + length (bytes_of ns f)) fs)
    ∙ ap (λ hs. old ++ sites_in ns q n offset hs) (sym at) ∙ so

-- those of a property more
pub property-more : (p : Draft) (i : ℕ) (x : NodeProperty Parts) (ts us : List (Option ℕ)) (old new whole : List Site) → i < length p.in_preorder.properties.items → x ≡ get_or p.in_preorder.properties.items i x
    → us ≡ drop (all_uses x.value.now.parts.items) ts → new ≡ old ++ fixed_sites p.asks (all_phandles p) (found_property (node_path p.live) x ts)
    → old ++ all_left p.asks (all_phandles p) (node_path p.live) (drop i p.in_preorder.properties.items) ts ≡ whole → new ++ all_left p.asks (all_phandles p) (node_path p.live) (drop (i + 1) p.in_preorder.properties.items) us ≡ whole
property-more p i x ts us old new whole below at behind put so =
    let ns = all_phandles p in
    let path = node_path p.live in
    let rest = drop (i + 1) p.in_preorder.properties.items in
    ap₂ (λ xs vs. xs ++ all_left p.asks ns path rest vs) put behind
    ∙ append_assoc old (fixed_sites p.asks ns (found_property path x ts)) (all_left p.asks ns path rest (drop (all_uses x.value.now.parts.items) ts))
    ∙ ap (λ y. old ++ all_left p.asks ns path (y ∷ rest) ts) at ∙ sym (at_drop_more (λ ys. old ++ all_left p.asks ns path ys ts) p.in_preorder.properties.items i x below) ∙ so
