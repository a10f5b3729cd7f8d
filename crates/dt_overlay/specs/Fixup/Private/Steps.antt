-- Where the shifting of an overlay stands: the values so far, and the bytes of the sites that were taken (dt-object-internal, section 2).
use Rattle.std.specs.Prelude.{◌≡◌, ◌<◌, ◌+◌, ℕ, Bool, false, ◌&&◌, List, length, Option, Some, None, slice_index_or, nat_le, nat_lt}
use Rattle.std.specs.List.{list_any}
use Rattle.std.specs.Str.{bytes_eq}
use Rattle.dt_source.specs.TreeMeaning.Paths.{Path, same_path}
use Rattle.dt_live.specs.declared.live_tree.LiveTree.{LiveTree}
use Rattle.dt_live.specs.Flattened.{Lent}
use Rattle.dt_live.specs.Rows.{path_of, property_at}
use Rattle.dt_source.specs.OverlayMeaning.Shifted.{Site, Shifting}
use Rattle.dt_overlay.specs.declared.fixup.patched_overlay.Change.{Change}
use Rattle.dt_overlay.specs.declared.fixup.patched_overlay.PatchedOverlay.{PatchedOverlay}
use Rattle.dt_overlay.specs.Fixup.PatchedOverlay.{change_at, patched_lists}

-- whether byte i of a changed value is that of a site
abbrev pub is_marked : Option Change → ℕ → Bool
is_marked None i = false
is_marked (Some c) i = slice_index_or c.taken.items i false

-- whether the site has byte i of the property at a path
abbrev pub covers : Path → List ℕ → ℕ → Site → Bool
covers p n i a = same_path p a.path && bytes_eq n a.name && nat_le a.offset i && nat_lt i (a.offset + 4)

-- whether the site has byte i of the property of row k
abbrev pub covers_row : LiveTree Lent → ℕ → ℕ → Site → Bool
covers_row d k i = let r = property_at d.properties.items k in covers (path_of d.nodes.items r.node) r.name.now i

-- the patched overlay has the values of the shifting, and marks on the bytes of its sites
pub record IsAt (x : Shifting) (s : PatchedOverlay) : Type 0 where
  pub properties : x.properties ≡ (patched_lists s).properties
  pub marks : (k i : ℕ) → k < length s.live.properties.items
      → is_marked (change_at s k) i ≡ list_any (covers_row s.live k i) x.sites
