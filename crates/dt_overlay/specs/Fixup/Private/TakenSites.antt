-- Fixup sites that were taken for the phandles of symbols (dt-object-internal, section 2.2).
use Rattle.std.specs.Prelude.{◌≡◌, ◌+◌, ◌≤◌, ◌<◌, ℕ, List, Result, length, map}
use Rattle.std.specs.Int.{to_be_bytes, w32}
use Rattle.dt_live.specs.declared.live_tree.LiveTree.{LiveTree}
use Rattle.dt_live.specs.Rows.{path_of, property_at}
use Rattle.dt_live.specs.Flattened.{Lent, lists}
use Rattle.dt_tree.specs.Steps.{fold}
use Rattle.dt_source.specs.OverlayMeaning.Shifted.{Fixup, resolve, site, write_at}
use Rattle.dt_overlay.specs.declared.fixup.error.OverlayError.{OverlayError}
use Rattle.dt_overlay.specs.declared.fixup.taken_sites.TakenSite.{TakenSite}
use Rattle.dt_overlay.specs.declared.fixup.patched_overlay.PatchedOverlay.{PatchedOverlay}
use Rattle.dt_overlay.specs.Fixup.PatchedOverlay.{properties_of, value_at}
use Rattle.dt_overlay.specs.Fixup.OverlayFault.{Leaves}

-- the fixup of a site
abbrev pub fixup_taken : LiveTree Lent → TakenSite → Fixup
fixup_taken d o = let r = property_at d.properties.items o.row in record { symbol = o.symbol.now; at = site (path_of d.nodes.items r.node) r.name.now o.offset }

-- its bytes lie inside its property's value
abbrev pub IsInside : PatchedOverlay → TakenSite → Type 0
IsInside s o = (o.row < length s.live.properties.items) × (o.offset + 4 ≤ length (value_at s o.row))

-- a phandle stands at the site
abbrev pub WritesSite : TakenSite → ℕ → PatchedOverlay → PatchedOverlay → Type 0
WritesSite o phandle old new = properties_of new ≡ write_at (fixup_taken old.live o).at (to_be_bytes w32 phandle) (properties_of old)

-- the phandles of the base's nodes stand at sites
abbrev pub WritesSites : {A : Type 0} → LiveTree Lent → List TakenSite → PatchedOverlay → PatchedOverlay → Result A OverlayError → Type 0
WritesSites base sites old new result =
    Leaves (fold (resolve (lists base)) (map (fixup_taken old.live) sites) (properties_of old)) (properties_of new) result
