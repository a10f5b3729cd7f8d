-- The numbers and names of the errors.
use Rattle.std.specs.Prelude.{ℕ, List, codes}
use Rattle.dt_overlay.specs.declared.fixup.error.OverlayError.{OverlayError}
use Rattle.dt_overlay.specs.declared.fixup.error.OverlayError.TheVariants.{NoMemory, NotOverlay, NoTarget, UnknownSymbol, BadFixup, PhandleOverflow, PhandleClash, TooDeep}

abbrev pub number_of : OverlayError → ℕ
number_of NoMemory = 0
number_of NotOverlay = 40
number_of (NoTarget fragment fault) = 41
number_of (UnknownSymbol entry site fault) = 42
number_of (BadFixup entry fault) = 43
number_of (PhandleOverflow place phandle shift) = 44
number_of (PhandleClash clash) = 45
number_of (TooDeep node target) = 46

abbrev pub name_of : OverlayError → List ℕ
name_of NoMemory = codes "NoMemory"
name_of NotOverlay = codes "NotOverlay"
name_of (NoTarget fragment fault) = codes "NoTarget"
name_of (UnknownSymbol entry site fault) = codes "UnknownSymbol"
name_of (BadFixup entry fault) = codes "BadFixup"
name_of (PhandleOverflow place phandle shift) = codes "PhandleOverflow"
name_of (PhandleClash clash) = codes "PhandleClash"
name_of (TooDeep node target) = codes "TooDeep"
