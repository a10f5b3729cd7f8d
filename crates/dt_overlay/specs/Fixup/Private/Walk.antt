-- Calls as steps of the meaning (dt-object-internal, section 2).
use Rattle.std.specs.Prelude.{◌≡◌, ◌+◌, ◌≤◌, ℕ, ◌&&◌, Bool, true, false, not, Some, Result, Ok, MatchResult, List, [], ◌∷◌, codes, drop, length}
use Rattle.std.specs.List.{filter}
use Rattle.std.specs.Str.{bytes_eq}
use Rattle.dt_tree.specs.Steps.{fold}
use Rattle.dt_tree.specs.Phandle.{is_reserved}
use Rattle.dt_source.specs.TreeMeaning.Edits.{definition}
use Rattle.dt_source.specs.TreeMeaning.MapOf.{value_in}
use Rattle.dt_live.specs.declared.live_tree.LiveTree.{LiveTree}
use Rattle.dt_live.specs.ByRow.{row_property}
use Rattle.dt_live.specs.Flattened.{Lent, lists}
use Rattle.dt_live.specs.Rows.{node_path, property_of}
use Rattle.dt_source.specs.OverlayMeaning.Fault.{Fault}
use Rattle.dt_source.specs.OverlayMeaning.Shifted.{Site, Shifting, Value, fits, is_local_fixup, raise_at, raise_sites, site}
use Rattle.dt_overlay.specs.declared.fixup.error.OverlayError.{OverlayError}
use Rattle.dt_overlay.specs.declared.fixup.local.LocalFixup.{LocalFixup}
use Rattle.dt_overlay.specs.declared.fixup.patched_overlay.PatchedOverlay.{PatchedOverlay}
use Rattle.dt_overlay.specs.declared.fixup.reason.EntryFault.{EntryFault}
use Rattle.dt_overlay.specs.Fixup.OverlayFault.{IsFault}
use Rattle.dt_overlay.specs.Fixup.PatchedOverlay.{properties_of, value_at}
use Rattle.dt_overlay.specs.Fixup.Private.Steps.{IsAt}

-- a call does what a step of the meaning does, or has its fault
abbrev pub IsStep : {A : Type 0} → (Shifting → Result Shifting Fault) → PatchedOverlay → PatchedOverlay → Result A OverlayError → Type 0
IsStep f s t r = (x : Shifting) → IsAt x s → MatchResult r (λ _. (y : Shifting) × (f x ≡ Ok y) × IsAt y t) (λ e. IsFault e (f x))

-- a site inside a value that may be written
abbrev pub is_open : Site → List Value → Bool
is_open a es = fits a.offset (value_in es a.path a.name) && not (is_reserved a.path) && not (bytes_eq a.name (codes "phandle"))

-- what one property's local fixup does
abbrev pub property_step : ℕ → LiveTree Lent → ℕ → Shifting → Result Shifting Fault
property_step shift d k = fold (raise_sites shift) (filter is_local_fixup (row_property d k ∷ []))

-- the site at an offset of a node's property
abbrev pub site_at : PatchedOverlay → ℕ → List ℕ → ℕ → Site
site_at s node name offset = site (node_path s.live node) name offset

-- the row of the property of a site that may be written, or a reason where it may not
abbrev pub IsOpenRow : PatchedOverlay → ℕ → List ℕ → ℕ → Result ℕ EntryFault → Type 0
IsOpenRow s node name offset found =
    MatchResult found
    (λ row. (is_open (site_at s node name offset) (properties_of s) ≡ true) × (property_of s.live node name ≡ Some row) × (offset + 4 ≤ length (value_at s row)))
    (λ fault. is_open (site_at s node name offset) (properties_of s) ≡ false)

-- what one site of a local fixup does, and all sites of one
abbrev pub site_step : ℕ → PatchedOverlay → LocalFixup → ℕ → Shifting → Result Shifting Fault
site_step shift s f offset = raise_at shift (site (drop 1 (node_path s.live f.node)) f.name.now offset)

abbrev pub sites_step : ℕ → PatchedOverlay → LocalFixup → List ℕ → Shifting → Result Shifting Fault
sites_step shift s f value = raise_sites shift (definition (node_path s.live f.node) f.name.now value)

-- what all local fixups do, in order
abbrev pub local_step : ℕ → LiveTree Lent → Shifting → Result Shifting Fault
local_step shift d = fold (raise_sites shift) (filter is_local_fixup (lists d).properties)
