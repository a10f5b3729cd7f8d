-- The symbols that an overlay puts into a base (dt-object-internal, section 3).
use Rattle.std.specs.Prelude.{◌≡◌, ◌<◌, ◌-◌, ◌^◌, ℕ, true, List, Option, Some, None, All, map, Vec}
use Rattle.std.specs.Global.{Global}
use Rattle.dt_tree.specs.Name.{is_name}
use Rattle.dt_live.specs.Builder.Sizes.{size_in}
use Rattle.dt_live.specs.declared.live_tree.LiveTree.{LiveTree}
use Rattle.dt_live.specs.Flattened.{Lent}
use Rattle.dt_source.specs.OverlayMeaning.Shifted.{Value}
use Rattle.dt_overlay.specs.declared.fixup.patched_overlay.PatchedOverlay.{PatchedOverlay}
use Rattle.dt_overlay.specs.declared.symbols.Symbol.{Symbol}
use Rattle.dt_overlay.specs.Private.Symbols.{symbol_value, symbols_over}

-- these are the symbols of these properties, or none are made as the values are longer than a limit that numbers can pass
abbrev pub AreSymbols : List Value → ℕ → Option (Vec Symbol Global) → Type 0
AreSymbols es limit None = (limit < size_in es) × (limit < 2 ^ 64 - 1)
AreSymbols es limit (Some symbols) = (map symbol_value symbols.items ≡ es) × All (λ s. is_name s.name.now ≡ true) symbols.items

-- the symbols that an overlay adds to a base
abbrev pub AreItsSymbols : LiveTree Lent → PatchedOverlay → ℕ → Option (Vec Symbol Global) → Type 0
AreItsSymbols base s limit symbols = AreSymbols (symbols_over base s) limit symbols
