-- Single rows: the phandles met so far (Devicetree Specification v0.4, section 2.3.3), and values that a call writes.
use Rattle.std.specs.Prelude.{◌≡◌, ◌==◌, ℕ, Bool, false, List, Result, is_some, if◌then◌else◌}
use Rattle.std.specs.Int.{to_be_bytes, w32}
use Rattle.std.specs.Ordering.{nat_cmp}
use Rattle.std.specs.BTreeMap.{BTreeMap, get}
use Rattle.dt_live.specs.ByRow.{row_property}
use Rattle.dt_live.specs.Flattened.{lists}
use Rattle.dt_source.specs.OverlayMeaning.Fault.{Fault}
use Rattle.dt_source.specs.OverlayMeaning.Shifted.{Value, raised_phandle, with_value, written}
use Rattle.dt_overlay.specs.declared.fixup.error.OverlayError.{OverlayError}
use Rattle.dt_overlay.specs.declared.fixup.patched_overlay.PatchedOverlay.{PatchedOverlay}
use Rattle.dt_overlay.specs.Fixup.OverlayFault.{Leaves}
use Rattle.dt_overlay.specs.Fixup.PatchedOverlay.{properties_of, value_at}

-- the number was met
abbrev pub is_met : BTreeMap ℕ ℕ → ℕ → Bool
is_met met n = is_some (get nat_cmp met n)

-- all properties but n have the values that they had
abbrev pub KeepsOthers : ℕ → PatchedOverlay → PatchedOverlay → Type 0
KeepsOthers n old new = (k : ℕ) → (k == n) ≡ false → value_at new k ≡ value_at old k

-- a number stands at an offset of property n
abbrev pub IsWritten : ℕ → ℕ → ℕ → PatchedOverlay → PatchedOverlay → Type 0
IsWritten n o number old new = (k : ℕ) → value_at new k ≡ (if k == n then written o (to_be_bytes w32 number) (value_at old k) else value_at old k)

-- property n is raised, where it is a phandle
abbrev pub RaisesRow : {A : Type 0} → ℕ → ℕ → PatchedOverlay → PatchedOverlay → Result A OverlayError → Type 0
RaisesRow shift n old new result =
    Leaves (raised_phandle shift (row_property old.live n)) (with_value (row_property old.live n) (value_at new n)) result

-- a call does to the properties of the overlay what the meaning does
abbrev pub DoesToAll : {A : Type 0} → (List Value → Result (List Value) Fault) → PatchedOverlay → PatchedOverlay → Result A OverlayError → Type 0
DoesToAll f old new result = Leaves (f (lists old.live).properties) (properties_of new) result
