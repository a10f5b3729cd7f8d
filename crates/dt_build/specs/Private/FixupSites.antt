-- The fixup sites of a plugin in one list, which both nodes of fixups are made of (dt-object-internal, sections 1.1 and 2).
use Rattle.std.specs.Prelude.{◌≡◌, ◌≤◌, ◌<◌, ℕ, Bool, ◌&&◌, is_none, if◌then◌else◌, ◌+◌, List, [], ◌∷◌, ◌++◌, length, map, drop, Option, None, Some, option_map, slice_index_or}
use denote.Ref.{Bor}
use Rattle.dt_source.specs.declared.tree.Part.{Part}
use Rattle.dt_source.specs.declared.tree.Reference.{Reference}
use Rattle.dt_source.specs.TreeMeaning.Names.{local_fixups_name}
use Rattle.dt_source.specs.TreeMeaning.Paths.{Path}
use Rattle.dt_source.specs.TreeMeaning.Edits.{Definition, definition}
use Rattle.dt_source.specs.TreeMeaning.Phandles.{PathPhandle}
use Rattle.dt_source.specs.TreeMeaning.References.{Found}
use Rattle.dt_source.specs.TreeMeaning.Fixups.{Site, label_found, sites_in, site_text}
use Rattle.dt_source.specs.TreeMeaning.Resolved.{is_too_deep}
use Rattle.dt_live.specs.Rows.{node_path}
use Rattle.dt_live.specs.declared.preorder.properties.NodeProperty.{NodeProperty}
use Rattle.dt_build.specs.Edit.Said.{Parts}
use Rattle.dt_build.specs.Resolve.Founds.{found_property}
use Rattle.dt_build.specs.declared.draft.Draft.{Draft}
use Rattle.dt_build.specs.declared.fixup_sites.FixupSite.{FixupSite}
use Rattle.dt_build.specs.Private.Made.{all_phandles, is_fixed, made_sites}
use Rattle.dt_build.specs.Private.Values.{all_uses, found_of, founds_of, label_in}

-- ---- one site
abbrev pub site_with : Path → List ℕ → ℕ → Option (List ℕ) → Site
site_with q n o l = record { label = l; path = q; name = n; offset = o }

-- the path and the name of a property, without its value
abbrev pub key_of : Draft → NodeProperty Parts → Definition (List ℕ)
key_of p x = definition (node_path p.live x.node) x.name.now []

abbrev pub keys : Draft → List (Definition (List ℕ))
keys p = map (key_of p) p.in_preorder.properties.items

-- of the property at a place in preorder
abbrev pub key_at : Draft → ℕ → Definition (List ℕ)
key_at p i = slice_index_or (keys p) i (definition [] [] [])

-- the label, where no node of the source has it
abbrev pub open_label : Option (Bor Reference) → Option (List ℕ)
open_label = option_map (λ r. label_in r.now)

abbrev pub site_of : Draft → FixupSite → Site
site_of p s = site_with (key_at p s.property).path (key_at p s.property).name s.offset (open_label s.reference)

-- ---- all sites
-- the places of their properties stand in order, from m on and below n
abbrev pub AreBetween : ℕ → ℕ → List FixupSite → Type 0
AreBetween m n [] = Unit {0}
AreBetween m n (s ∷ ss) = (m ≤ s.property) × (s.property < n) × AreBetween s.property n ss

pub record AreSites (p : Draft) (ss : List FixupSite) : Type 0 where
  pub sites : map (site_of p) ss ≡ made_sites p
  pub places : AreBetween 0 (length p.in_preorder.properties.items) ss

-- those of one property, unless it asks for the number of its own node
abbrev pub fixed_sites : Bool → List PathPhandle → Definition (List Found) → List Site
fixed_sites asks ns e = if is_fixed asks e then sites_in ns e.path e.name 0 e.value else []

-- those in these properties, whose values have the first of these targets
abbrev pub all_left : Bool → List PathPhandle → (ℕ → Path) → List (NodeProperty Parts) → List (Option ℕ) → List Site
all_left asks ns path [] ts = []
all_left asks ns path (x ∷ xs) ts = fixed_sites asks ns (found_property path x ts) ++ all_left asks ns path xs (drop (all_uses x.value.now.parts.items) ts)

-- ---- sites put behind others
-- that of a part of the property at a place in preorder, where it is a phandle
abbrev pub PutsPart : ℕ → Part → Option ℕ → ℕ → List FixupSite → List FixupSite → Type 0
PutsPart i x t offset old new = (p : Draft) (path : ℕ → Path)
    → map (site_of p) new ≡ map (site_of p) old ++ map (site_with (key_at p i).path (key_at p i).name offset) (label_found (found_of path x t))

-- those of its value, whose targets are the first of these
abbrev pub PutsAll : Draft → ℕ → List Part → List (Option ℕ) → List FixupSite → List FixupSite → Type 0
PutsAll p i v ts old new =
    map (site_of p) new ≡ map (site_of p) old ++ sites_in (all_phandles p) (key_at p i).path (key_at p i).name 0 (founds_of (node_path p.live) v ts)

-- those of a property that has fixups
abbrev pub PutsFixed : Draft → NodeProperty Parts → List (Option ℕ) → List FixupSite → List FixupSite → Type 0
PutsFixed p x ts old new = map (site_of p) new ≡ map (site_of p) old ++ fixed_sites p.asks (all_phandles p) (found_property (node_path p.live) x ts)

-- ---- sizes
-- a text among the fixups of a label, or the four bytes of an offset among the local fixups
abbrev pub size_by : Option (List ℕ) → Site → ℕ
size_by None x = 4
size_by (Some l) x = length (site_text x)

abbrev pub site_size : Site → ℕ
site_size x = size_by x.label x

abbrev pub sites_size : List Site → ℕ
sites_size [] = 0
sites_size (x ∷ xs) = site_size x + sites_size xs

-- the copy of a site's node is too deep
abbrev pub is_deep : Site → Bool
is_deep x = is_none x.label && is_too_deep (local_fixups_name ∷ x.path)
