-- The names of the properties that hold phandles, and the labels there, are names.
use Rattle.std.proofs.Common.{◌≡◌, ◌+◌, ◌<◌, ℕ, Bool, true, false, List, [], ◌∷◌, length, get_or, map, Option, sym, subst}
use Rattle.std.specs.Prelude.{All}
use Rattle.dt_source.specs.TreeMeaning.Paths.{Path}
use Rattle.dt_source.specs.TreeMeaning.Edits.{Definition}
use Rattle.dt_source.specs.TreeMeaning.References.{Found, Bytes, Cell, Open, PathText}
use Rattle.dt_source.specs.TreeMeaning.Phandles.{PathPhandle}
use Rattle.dt_source.specs.TreeMeaning.Fixups.{Site, bytes_of, label_found, sites, sites_in}
use Rattle.dt_source.specs.TreeMeaning.Resolved.{when}
use Rattle.dt_build.specs.Edit.Said.{Parts}
use Rattle.dt_live.specs.declared.preorder.properties.NodeProperty.{NodeProperty}
use Rattle.dt_live.proofs.Each.{Each, each-append, each-flat, each-more, each-of}
use Rattle.dt_build.specs.declared.draft.Draft.{Draft}
use Rattle.dt_build.specs.Private.Made.{all_phandles, fixed, made_sites}
use Rattle.dt_build.specs.Private.Ready.{IsNamedFound, IsReady}
use Rattle.dt_build.proofs.FixupLists.{IsOfLabel}
use Rattle.dt_build.proofs.NamedSources.{IsName}

-- ---- what is true of the path and the name of each property, and of the labels in it
module _ (ns : List PathPhandle) (P : Site → Type 0) where
  one-place : (p : Path) (n : List ℕ) (at : ℕ) (ls : List (Option (List ℕ))) → Each (λ l. P (record { label = l; path = p; name = n; offset = at })) ls
      → Each P (map (λ l. record { label = l; path = p; name = n; offset = at }) ls)
  one-place p n at [] h = tt
  one-place p n at (l ∷ ls) h = (h.0, one-place p n at ls h.1)

  sites_in-each : (p : Path) (n : List ℕ) (at : ℕ) (fs : List Found) → Each (λ f. Each (λ l. (k : ℕ) → P (record { label = l; path = p; name = n; offset = k })) (label_found f)) fs
      → Each P (sites_in ns p n at fs)
  sites_in-each p n at [] h = tt
  sites_in-each p n at (f ∷ fs) h =
      each-append P (map (λ l. record { label = l; path = p; name = n; offset = at }) (label_found f)) (sites_in ns p n (at + length (bytes_of ns f)) fs)
      (one-place p n at (label_found f)
      (each-more (λ l. (k : ℕ) → P (record { label = l; path = p; name = n; offset = k })) (λ l. P (record { label = l; path = p; name = n; offset = at })) (label_found f) (λ l k. k at) h.0))
      (sites_in-each p n (at + length (bytes_of ns f)) fs h.1)

  pub sites-each : (es : List (Definition (List Found))) → Each (λ e. Each (λ f. Each (λ l. (k : ℕ) → P (record { label = l; path = e.path; name = e.name; offset = k })) (label_found f)) e.value) es
      → Each P (sites ns es)
  sites-each es h =
      each-flat (λ e. Each (λ f. Each (λ l. (k : ℕ) → P (record { label = l; path = e.path; name = e.name; offset = k })) (label_found f)) e.value) P
      (λ e. sites_in ns e.path e.name 0 e.value) es (λ e k. sites_in-each e.path e.name 0 e.value k) h

every : {A : Type 0} (P : A → Type 0) (xs : List A) → ((x : A) → P x) → Each P xs
every P [] h = tt
every P (x ∷ xs) h = (h x, every P xs h)

pub sites-so : (ns : List PathPhandle) (Q : Path → List ℕ → Type 0) (es : List (Definition (List Found))) → Each (λ e. Q e.path e.name) es → Each (λ x. Q x.path x.name) (sites ns es)
sites-so ns Q es h =
    sites-each ns (λ x. Q x.path x.name) es
    (each-more (λ e. Q e.path e.name) (λ e. Each (λ f. Each (λ l. (k : ℕ) → Q e.path e.name) (label_found f)) e.value) es
    (λ e q. every (λ f. Each (λ l. (k : ℕ) → Q e.path e.name) (label_found f)) e.value (λ f. every (λ l. (k : ℕ) → Q e.path e.name) (label_found f) (λ l k. q))) h)

label-named : (f : Found) → IsNamedFound f → Each (λ l. (k : ℕ) → IsOfLabel IsName l) (label_found f)
label-named (Open l) h = ((λ k. h), tt)
label-named (Cell p) h = ((λ k. tt), tt)
label-named (Bytes b) h = tt
label-named (PathText p) h = tt

pub sites-labelled : (ns : List PathPhandle) (es : List (Definition (List Found))) → Each (λ e. Each IsNamedFound e.value) es → Each (λ x. IsOfLabel IsName x.label) (sites ns es)
sites-labelled ns es h =
    sites-each ns (λ x. IsOfLabel IsName x.label) es
    (each-more (λ e. Each IsNamedFound e.value) (λ e. Each (λ f. Each (λ l. (k : ℕ) → IsOfLabel IsName l) (label_found f)) e.value) es
    (λ e k. each-more IsNamedFound (λ f. Each (λ l. (j : ℕ) → IsOfLabel IsName l) (label_found f)) e.value label-named k) h)

-- ---- of a draft
module _ (p : Draft) (ready : IsReady p) where
  -- the name of each property in preorder is one
  pub property-named : (i : ℕ) (x : NodeProperty Parts) → i < length p.in_preorder.properties.items → x ≡ get_or p.in_preorder.properties.items i x → IsName x.name.now
  property-named i x below at = subst (λ (y : NodeProperty Parts). IsName y.name.now) (sym at) (ready.named.properties i x below)

  labelled-by : (b : Bool) → Each (λ e. All IsNamedFound e.value) (when b (fixed p)) → Each (λ x. IsOfLabel IsName x.label) (when b (sites (all_phandles p) (fixed p)))
  labelled-by false h = tt
  labelled-by true h =
      sites-labelled (all_phandles p) (fixed p) (each-more (λ e. All IsNamedFound e.value) (λ e. Each IsNamedFound e.value) (fixed p) (λ e k. each-of IsNamedFound e.value k) h)

  -- the label of a place is a name
  pub made-labelled : Each (λ x. IsOfLabel IsName x.label) (made_sites p)
  made-labelled = labelled-by p.plugin (each-of (λ e. All IsNamedFound e.value) (when p.plugin (fixed p)) ready.named.elsewhere)
