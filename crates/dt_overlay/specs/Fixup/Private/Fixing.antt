-- Fixups as they are read, and the sites that are taken for them (dt-object-internal, section 2.2).
use Rattle.std.specs.Prelude.{◌≡◌, ℕ, List, [], ◌∷◌, ◌++◌, Option, None, Some, Result, Ok, MatchOption, MatchResult, map, unwrap_or}
use Rattle.std.specs.List.{filter, flat_map}
use denote.Ref.{Bor}
use Rattle.dt_tree.specs.Steps.{then_do, each, fold}
use Rattle.dt_tree.specs.Path.{path_names}
use Rattle.dt_source.specs.TreeMeaning.MapOf.{value_in}
use Rattle.dt_source.specs.TreeMeaning.Names.{symbols_name}
use Rattle.dt_live.specs.declared.live_tree.LiveTree.{LiveTree}
use Rattle.dt_live.specs.ByRow.{row_property}
use Rattle.dt_live.specs.Flattened.{Lent, lists}
use Rattle.dt_source.specs.TreeMeaning.Paths.{Path}
use Rattle.dt_source.specs.OverlayMeaning.Fault.{Fault}
use Rattle.dt_source.specs.OverlayMeaning.Shifted.{Fixup, Shifting, Site, Value, fixups_in, is_fixups, site, site_of, take_site, with_fixups}
use Rattle.dt_overlay.specs.declared.fixup.error.OverlayError.{OverlayError}
use Rattle.dt_source.specs.OverlayMeaning.Texts.{parts}
use Rattle.dt_overlay.specs.declared.fixup.patched_overlay.PatchedOverlay.{PatchedOverlay}
use Rattle.dt_overlay.specs.declared.fixup.reading.NamedSite.{NamedSite}
use Rattle.dt_overlay.specs.declared.fixup.reason.SymbolFault.{SymbolFault}
use Rattle.dt_overlay.specs.declared.fixup.texts.SiteText.{SiteText}
use Rattle.dt_overlay.specs.Fixup.OverlayFault.{IsFault, Leaves}
use Rattle.dt_overlay.specs.Fixup.PatchedOverlay.{properties_of}
use Rattle.dt_overlay.specs.Fixup.Private.Steps.{IsAt}

-- ---- texts
-- a text in two at its first colon, none where it has none
abbrev pub IsFirstPart : List ℕ → Option (Bor (List ℕ) × Bor (List ℕ)) → Type 0
IsFirstPart text found = MatchOption found (parts 58 text ≡ text ∷ []) (λ both. parts 58 text ≡ both.0.now ∷ parts 58 both.1.now)

-- the site that a text names, none where it names none
abbrev pub site_named : SiteText → Site
site_named t = site (path_names t.path.now) t.name.now t.offset

abbrev pub IsSiteText : List ℕ → Option SiteText → Type 0
IsSiteText text found = MatchOption found (site_of (parts 58 text) ≡ None) (λ t. site_of (parts 58 text) ≡ Some (site_named t))

-- the value of a symbol, nothing where there is none
abbrev pub symbol_value : LiveTree Lent → List ℕ → List ℕ
symbol_value base symbol = unwrap_or (value_in (lists base).properties (symbols_name ∷ []) symbol) []

-- the path that is meant, or a reason where there is none
abbrev pub IsPathOrFault : Option Path → Result (Bor (List ℕ)) SymbolFault → Type 0
IsPathOrFault meant found = MatchResult found (λ path. meant ≡ Some (path_names path.now)) (λ fault. meant ≡ None)

-- the phandle that is meant, or a reason where there is none
abbrev pub IsPhandleOrFault : Option ℕ → Result ℕ SymbolFault → Type 0
IsPhandleOrFault meant found = MatchResult found (λ phandle. meant ≡ Some phandle) (λ fault. meant ≡ None)

-- ---- fixups
-- a fixup that was read
abbrev pub fixup_named : NamedSite → Fixup
fixup_named f = record { symbol = f.symbol.now; at = site_named f.site }

-- the fixups of properties, in order
abbrev pub gathered : List Value → Result (List Fixup) Fault
gathered es = then_do (each fixups_in es) (λ fss. Ok (flat_map (λ f. f) fss))

-- those of a row
abbrev pub row_fixups : LiveTree Lent → ℕ → Result (List Fixup) Fault
row_fixups d k = gathered (filter is_fixups (row_property d k ∷ []))

-- a call adds what the meaning has, or has its fault
abbrev pub AddsFixups : {A : Type 0} → Result (List Fixup) Fault → List NamedSite → List NamedSite → Result A OverlayError → Type 0
AddsFixups r old new result =
    MatchResult result
    (λ _. (fs : List Fixup) × (r ≡ Ok fs) × (map fixup_named new ≡ map fixup_named old ++ fs))
    (λ e. IsFault e r)

-- the properties of an overlay that hold its fixups
abbrev pub fixups_of : LiveTree Lent → List Value
fixups_of over = filter is_fixups (lists over).properties

-- the sites of fixups that were read are taken, in order
abbrev pub sites_taken : List NamedSite → Shifting → Result Shifting Fault
sites_taken xs = fold (λ f. take_site f.at) (map fixup_named xs)

-- from wherever the shifting stands, the fixups are resolved
abbrev pub ResolvesFixups : {A : Type 0} → LiveTree Lent → PatchedOverlay → PatchedOverlay → Result A OverlayError → Type 0
ResolvesFixups base old new result =
    (x : Shifting) → IsAt x old → Leaves (with_fixups (lists base) (fixups_of old.live) x) (properties_of new) result
